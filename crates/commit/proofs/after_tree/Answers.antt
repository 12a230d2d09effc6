use Rattle.std.proofs.Common.{ap, ◌∙◌, codes, arith, w64, SFits, rules}
use Rattle.std.proofs.lemmas.Int.{to_z-of_z}
use Rattle.commit.specs.Layout.{closed}
use Rattle.commit.specs.Shapes.{names_in}
use Rattle.commit.proofs.Fronts.{begins}
use Rattle.commit.proofs.Walks.{one_parent, at_author, misfit, names_front, fits_same}
use Rattle.commit.proofs.after_tree.Goals as goal

pub loop-line-preserved : goal.loop-line-preserved
loop-line-preserved c =
    let h = c.in_ok-line.ensures in
    one_parent _ _ _ _ c.in_ok-line.tail.text.now _ _ c.loop-line.invariant h.0 h.1 h.2 c.if-is_named.ensures

pub returns-in_err-date : goal.returns-in_err-date
returns-in_err-date c =
    let h = c.in_ok-line.ensures in
    let s = c.loop-line.invariant in
    let begun = (begins (codes "author ") c.in_ok-line.line.now _ c.starts_with.ensures.value).0 c.if-starts_with.true in
    let k = ap (closed (names_in s.count c.args.lines.text.now)) c.in_err-date.ensures ∙ at_author _ _ _ _ c.in_ok-line.tail.text.now _ _ _ s h.0 h.2 c.if-is_named.ensures begun in
    search rules

pub returns-then-starts_with : goal.returns-then-starts_with
returns-then-starts_with c =
    let h = c.in_ok-line.ensures in
    let s = c.loop-line.invariant in
    let begun = (begins (codes "author ") c.in_ok-line.line.now _ c.starts_with.ensures.value).0 c.if-starts_with.true in
    let k = ap (closed (names_in s.count c.args.lines.text.now)) c.in_ok-date.ensures ∙ at_author _ _ _ _ c.in_ok-line.tail.text.now _ _ _ s h.0 h.2 c.if-is_named.ensures begun in
    let f : SFits w64 c.in_ok-date.date = search rules in
    fits_same _ _ _ _ (to_z-of_z w64 c.in_ok-date.date f) (names_front c.args.lines.text.now _ s.count (omega (arith, s.sums)) (omega (arith, s.long))) ∙ k

pub returns-else-starts_with : goal.returns-else-starts_with
returns-else-starts_with c =
    let h = c.in_ok-line.ensures in
    let nay = (begins (codes "author ") c.in_ok-line.line.now _ c.starts_with.ensures.value).1 c.if-starts_with.false in
    let k = misfit _ _ _ _ c.in_ok-line.tail.text.now _ c.loop-line.invariant h.0 c.if-is_named.ensures nay in
    search rules
