use Rattle.std.proofs.Common.{◌≡◌, Some, Ok, Err, ap, ◌∙◌, rules}
use Rattle.fields.specs.Steps.{GivesField}
use Rattle.input.specs.Inputs.{refused}
use Rattle.input.proofs.Scans.{Misfits, misfit_ends, misfit_cuts, misfit_here, misfit_more, moved}
use Rattle.input.proofs.check.Goals as goal

pub loop-field-preserved : goal.loop-field-preserved
loop-field-preserved c =
    let all = c.args.calls.bytes.now in
    let from = c.args.calls.at in
    let s = c.loop-field.field-iterator in
    let t = c.next.new.self in
    let f = c.in_ok-field.field in
    let g : GivesField s (Some (Ok f)) t = rw c.in_ok-field.was at c.in-Some.ensures.steps in (
      tt,
      tt,
      moved (Misfits all from) s t f g
          (misfit_more all from s.rest.bytes.now f.body.now f.rest.bytes.now s.rest.at f.tag c.call_of.result c.loop-field.invariant.2 g.2 c.call_of.ensures c.if-is_none.ensures),
    )

pub returns : goal.returns
returns c =
    let s = c.loop-field.field-iterator in
    ap refused (misfit_ends c.args.calls.bytes.now c.args.calls.at s.rest.bytes.now s.rest.at c.loop-field.invariant.2 c.in-None.ensures.steps.0)

pub returns-in_err-field : goal.returns-in_err-field
returns-in_err-field c =
    let s = c.loop-field.field-iterator in
    let m = c.in_err-field.field-0.0 in
    let g : GivesField s (Some (Err m)) c.next.new.self = rw c.in_err-field.was at c.in-Some.ensures.steps in
    let passed : c.from_residual.result ≡ refused (Some m.place) = search rules in
    passed
    ∙ ap (λ n. refused (Some n)) (ap (λ x. x.place) g.2)
    ∙ ap refused (misfit_cuts c.args.calls.bytes.now c.args.calls.at s.rest.bytes.now s.rest.at c.loop-field.invariant.2 g.0 g.1)

pub returns-then-is_none : goal.returns-then-is_none
returns-then-is_none c =
    let s = c.loop-field.field-iterator in
    let f = c.in_ok-field.field in
    let g : GivesField s (Some (Ok f)) c.next.new.self = rw c.in_ok-field.was at c.in-Some.ensures.steps in
    ap (λ n. refused (Some n)) g.0
    ∙ ap refused
    (misfit_here c.args.calls.bytes.now c.args.calls.at s.rest.bytes.now f.body.now f.rest.bytes.now s.rest.at f.tag c.call_of.result c.loop-field.invariant.2 g.2 c.call_of.ensures c.if-is_none.ensures)
