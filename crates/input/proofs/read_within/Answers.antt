use Rattle.std.proofs.Common.{◌≡◌, ℕ, ◌≤◌, List, length, take, Some, Ok, Err, ap, ◌∙◌, arith, rules, le-ltb}
use Rattle.fields.specs.Steps.{GivesField}
use Rattle.input.specs.Inputs.{heard, bad, store_then, parsed_within, numbered}
use Rattle.input.proofs.Scans.{Stores, store_ends, store_cuts, store_last, store_more, moved}
use Rattle.input.proofs.read_within.Goals as goal

short : (most : ℕ) (bs : List ℕ) → length bs ≤ most → store_then (length bs) bs bs 0 ≡ parsed_within most bs
short most bs le = rw (le-ltb most (length bs) le)

pub loop-field-preserved : goal.loop-field-preserved
loop-field-preserved c =
    let bs = c.args.bytes.now in
    let s = c.loop-field.field-iterator in
    let t = c.next.new.self in
    let f = c.in_ok-field.field in
    let g : GivesField s (Some (Ok f)) t = rw c.in_ok-field.was at c.in-Some.ensures.steps in
    (tt, tt, moved (Stores bs) s t f g (store_more bs s.rest.bytes.now f.body.now f.rest.bytes.now s.rest.at f.tag c.loop-field.invariant.2 g.2 c.if-field.false))

pub returns : goal.returns
returns c =
    let bs = c.args.bytes.now in
    let s = c.loop-field.field-iterator in
    let i = c.loop-field.invariant.2 in
    let g = c.in-None.ensures.steps.0 in
    let place : length bs ≡ s.rest.at = omega (arith, i.sums, g) in
    ap bad place ∙ store_ends bs s.rest.bytes.now s.rest.at i g ∙ short c.args.most bs (omega arith)

pub returns-in_err-field : goal.returns-in_err-field
returns-in_err-field c =
    let bs = c.args.bytes.now in
    let s = c.loop-field.field-iterator in
    let m = c.in_err-field.field-0.0 in
    let g : GivesField s (Some (Err m)) c.next.new.self = rw c.in_err-field.was at c.in-Some.ensures.steps in
    let passed : heard c.from_residual.result ≡ bad m.place = search rules in
    passed ∙ ap bad (ap (λ x. x.place) g.2) ∙ store_cuts bs s.rest.bytes.now s.rest.at c.loop-field.invariant.2 g.0 g.1 ∙ short c.args.most bs (omega arith)

pub returns-then-field : goal.returns-then-field
returns-then-field c =
    let bs = c.args.bytes.now in
    let s = c.loop-field.field-iterator in
    let f = c.in_ok-field.field in
    let body = f.body.now in
    let rest = f.rest.bytes.now in
    let g : GivesField s (Some (Ok f)) c.next.new.self = rw c.in_ok-field.was at c.in-Some.ensures.steps in
    c.walk_from.ensures
    ∙ ap (λ (k : ℕ). numbered (take k bs) body rest k) g.0
    ∙ store_last bs s.rest.bytes.now body rest s.rest.at f.tag c.loop-field.invariant.2 g.2 c.if-field.true
    ∙ short c.args.most bs (omega arith)
