use Rattle.std.proofs.Common.{◌≤◌, sym, ap, subst, arith}
use Rattle.model.specs.Book.{Walk}
use Rattle.model.specs.Steady.{SkipFit, Ext, common_rows}
use Rattle.model.proofs.Good.{ext_trans, ext_refl}
use Rattle.model.proofs.SkipFits.{commons_rows}
use Rattle.walk.proofs.Keeps.{fits_le}
use Rattle.skipping.specs.Seen.{walk}
use Rattle.skipping.proofs.Draws.{drew_held, drew_step, drew_less, drew_last}
use Rattle.skipping.proofs.Algorithm.spread.Goals as goal

pub loop-step-init : goal.loop-step-init
loop-step-init c = (ext_refl (walk c.args.self.now), c.requires, λ t m. m)

pub visit-requires : goal.visit-requires
visit-requires c =
    let d = c.in-Some.ensures in
    drew_held c.loop-step.self.state c.dequeue_mark.new.self c.in-Some.step d.is d.only.same d.number c.loop-step.invariant.1

pub loop-step-preserved : goal.loop-step-preserved
loop-step-preserved c =
    let w = c.args.self.now in
    let u = c.loop-step.self in
    let v = c.visit.new.self in
    let i = c.loop-step.invariant in
    let d = c.in-Some.ensures in (
      ext_trans (walk w) (walk u) (walk v) i.0 (subst (λ (x : Walk). Ext x (walk v)) d.only.same c.visit.ensures.keeps.grows),
      c.visit.ensures.keeps.held,
      (λ t m. i.2 t (drew_step u.state c.dequeue_mark.new.self c.in-Some.step d.is d.only.same t (λ date. c.visit.ensures.is date t m))),
    )

pub loop-step-smaller : goal.loop-step-smaller
loop-step-smaller c =
    let u = c.loop-step.self in
    let v = c.visit.new.self in
    let d = c.in-Some.ensures in
    let b : common_rows (walk v) ≤ (walk v).most_rows = fits_le SkipFit v.state _ _ v.fit (λ F. commons_rows (walk v) _ _ _ F) in
    let x : Ext (walk u) (walk v) = subst (λ (y : Walk). Ext y (walk v)) d.only.same c.visit.ensures.keeps.grows in
    let e = ap common_rows d.only.same in
    omega (arith, b, x.most, x.commons, e, c.visit.ensures.keeps.pays, drew_less u.state c.dequeue_mark.new.self c.in-Some.step d.is d.only.same)

pub returns : goal.returns
returns c =
    let w = c.args.self.now in
    let u = c.loop-step.self in
    let i = c.loop-step.invariant in
    let d = c.in_default.ensures in
    record { is = i.2 _ (drew_last u.state c.dequeue_mark.new.self d.is d.only.same); grows = subst (λ (x : Walk). Ext (walk w) x) (sym d.only.same) i.0 }
