use Rattle.std.proofs.Common.{◌≡◌, Some, Ok, Err, sym, ◌∙◌, subst, rules}
use Rattle.fields.specs.Steps.{GivesPair}
use Rattle.fields.proofs.Scans.{Scanned, start, gives_other, gives_end, gives_misfit, gives_found}
use Rattle.fields.proofs.Placings.{finds}
use Rattle.fields.proofs.find.Goals as goal

pub loop-pair-init : goal.loop-pair-init
loop-pair-init c =
    let store = c.args.store.now in
    let id = c.args.id.bytes in
    let front : c.into_iter-pair-iterator.result.at ≡ 0 = search rules in
    (tt, tt, search rules, subst (Scanned id store) (sym front) (start id store))

pub loop-pair-preserved : goal.loop-pair-preserved
loop-pair-preserved c =
    let store = c.args.store.now in
    let id = c.args.id.bytes in
    let s = c.loop-pair.pair-iterator in
    let t = c.next.new.self in
    let i = c.loop-pair.invariant in
    let g : GivesPair s (Some (Ok (c.in_ok-at.at, c.in_ok-at.pair))) t = rw c.in_ok-at.was at c.in-Some.ensures.steps in
    (tt, tt, g.4 ∙ i.2, gives_other id store s i.2 i.3 t c.in_ok-at.at c.in_ok-at.pair g c.if-eq.ensures)

pub returns : goal.returns
returns c =
    let store = c.args.store.now in
    let id = c.args.id.bytes in
    let i = c.loop-pair.invariant in
    let e = gives_end id store c.loop-pair.pair-iterator i.2 i.3 c.next.new.self c.in-None.ensures.steps in
    record { value = e; finds = finds store id _ e }

pub returns-in_err-at : goal.returns-in_err-at
returns-in_err-at c =
    let store = c.args.store.now in
    let id = c.args.id.bytes in
    let s = c.loop-pair.pair-iterator in
    let t = c.next.new.self in
    let i = c.loop-pair.invariant in
    let g : GivesPair s (Some (Err c.in_err-at.field-0.0)) t = rw c.in_err-at.was at c.in-Some.ensures.steps in
    let m = c.in_err-at.field-0.0 in
    let passed : c.from_residual.result ≡ Err m = search rules in
    let e = passed ∙ gives_misfit id store s i.2 i.3 t m g in
    record { value = e; finds = finds store id _ e }

pub returns-then-eq : goal.returns-then-eq
returns-then-eq c =
    let store = c.args.store.now in
    let id = c.args.id.bytes in
    let s = c.loop-pair.pair-iterator in
    let t = c.next.new.self in
    let i = c.loop-pair.invariant in
    let g : GivesPair s (Some (Ok (c.in_ok-at.at, c.in_ok-at.pair))) t = rw c.in_ok-at.was at c.in-Some.ensures.steps in
    let e = gives_found id store s i.2 i.3 t c.in_ok-at.at c.in_ok-at.pair g c.if-eq.ensures in
    record { value = e; finds = finds store id _ e }
