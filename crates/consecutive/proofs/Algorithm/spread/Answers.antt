use Rattle.std.proofs.Common.{ℕ, ◌≤◌, [], sym, ap, subst, arith}
use Rattle.std.proofs.lemmas.Result.{err_from_is_err_and}
use Rattle.model.specs.Book.{Marks, Walk}
use Rattle.model.specs.Steps.{ok, no}
use Rattle.model.specs.Consecutive as steps
use Rattle.model.specs.Consecutive.{Marking}
use Rattle.model.specs.Steady.{Fit, Ext, common_rows}
use Rattle.model.proofs.Fits.{held_more, commons_rows}
use Rattle.model.proofs.Good.{ext_trans}
use Rattle.walk.specs.View.{mark_numbered}
use Rattle.walk.proofs.Keeps.{fits_le, fits_same}
use Rattle.consecutive.specs.Seen.{walk, marks, all}
use Rattle.consecutive.proofs.Spreads.{drawn_held, undrawn, drawn_less}
use Rattle.consecutive.proofs.Algorithm.spread.Goals as goal

pub invariant_of-self : goal.invariant_of-self
invariant_of-self g c = record { fit = fits_same Fit c.loop-step.self.state _ c.loop-step.self.fit c.dequeue_mark.ensures.only.rooms c.dequeue_mark.ensures.only.same c.dequeue_mark.ensures.only.numbered }

pub visit-requires : goal.visit-requires
visit-requires g c =
    let d = c.in-Some.ensures.is in
    let h = drawn_held c.loop-step.self.state c.dequeue_mark.new.self d.0 c.in-Some.step d.1 d.2 c.dequeue_mark.ensures.only.same c.loop-step.invariant.1 c.dequeue_mark.ensures.number in
    record { inside = h.0; held = h.1; young = h.2 }

pub returns-in_err-visit : goal.returns-in_err-visit
returns-in_err-visit g c =
    let src = g.S.Source.meaning c.args.source.now in
    let w = c.args.self.now in
    let u = c.loop-step.self in
    let v = c.visit.new.self in
    let i = c.loop-step.invariant in
    let d = c.in-Some.ensures.is in
    let reach = all c.args.ancestors in
    let denial = c.in_err-visit.field-0.0 in
    let p = err_from_is_err_and c.from_residual.result c.from_residual.ensures.1 in
    let m : (n : ℕ) → Marking src reach n [] (marks w) (walk w) (no denial (walk v)) = i.2 (no denial (walk v)) (λ n. undrawn u.state c.dequeue_mark.new.self d.0 c.in-Some.step d.1 d.2 c.dequeue_mark.ensures.only.same src reach n (no denial (walk v)) (c.in_err-visit.ensures.is d.0.date n)) in
    record {
      is = λ n. rw (p.1, p.2) (m n);
      grows = ext_trans (walk w) (walk u) (walk v) i.0 (subst (λ (s : Walk). Ext s (walk v)) c.dequeue_mark.ensures.only.same c.visit.ensures.keeps.grows);
    }

pub loop-step-preserved : goal.loop-step-preserved
loop-step-preserved g c =
    let src = g.S.Source.meaning c.args.source.now in
    let w = c.args.self.now in
    let u = c.loop-step.self in
    let v = c.visit.new.self in
    let i = c.loop-step.invariant in
    let d = c.in-Some.ensures.is in
    let reach = all c.args.ancestors in (
      ext_trans (walk w) (walk u) (walk v) i.0 (subst (λ (s : Walk). Ext s (walk v)) c.dequeue_mark.ensures.only.same c.visit.ensures.keeps.grows),
      held_more (walk v) (marks v) (mark_numbered v.state) c.visit.ensures.keeps.held,
      (λ out m n. i.2 out (λ k. undrawn u.state c.dequeue_mark.new.self d.0 c.in-Some.step d.1 d.2 c.dequeue_mark.ensures.only.same src reach k out (c.in_ok-visit.ensures.is d.0.date out m k)) n),
    )

pub loop-step-smaller : goal.loop-step-smaller
loop-step-smaller g c =
    let u = c.loop-step.self in
    let v = c.visit.new.self in
    let d = c.in-Some.ensures.is in
    let b : common_rows (walk v) ≤ (walk v).most_rows = fits_le Fit v.state _ _ v.fit (λ F. commons_rows (walk v) _ _ _ F) in
    let e = ap common_rows c.dequeue_mark.ensures.only.same in
    let f = ap (λ (s : Walk). s.most_rows) c.dequeue_mark.ensures.only.same in
    omega (arith, b, e, f, c.visit.ensures.keeps.pays, c.visit.ensures.keeps.grows.most, c.visit.ensures.keeps.grows.commons, drawn_less u.state c.dequeue_mark.new.self d.0 c.in-Some.step d.1 d.2 c.dequeue_mark.ensures.only.same)

pub returns : goal.returns
returns g c =
    let src = g.S.Source.meaning c.args.source.now in
    let w = c.args.self.now in
    let u = c.loop-step.self in
    let i = c.loop-step.invariant in
    let reach = all c.args.ancestors in
    let e = c.in_default.ensures.is.0 in
    record {
      is = λ n. subst (λ (s : Walk). Marking src reach n [] (marks w) (walk w) (ok s)) (sym c.dequeue_mark.ensures.only.same) (i.2 (ok (walk u)) (λ k. subst (λ (q : Marks). Marking src reach k [] q (walk u) (ok (walk u))) (sym e) steps.Marking.done) n);
      grows = subst (λ (s : Walk). Ext (walk w) s) (sym c.dequeue_mark.ensures.only.same) i.0;
    }
