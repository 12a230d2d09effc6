use Rattle.std.proofs.Common.{◌≡◌, true, false, Ok, sym, refl, ap, ◌∙◌, subst, inl, arith}
use Rattle.model.specs.Book.{Flags, Marks, Walk, flags_at}
use Rattle.model.specs.Parts.{Visited}
use Rattle.model.specs.Steady.{Ext}
use Rattle.model.proofs.Fits.{seen_ext}
use Rattle.model.proofs.Good.{ext_refl}
use Rattle.model.proofs.Moves.{visit_unseen, visit_far, visit_near}
use Rattle.consecutive.specs.Seen.{walk, marks, all}
use Rattle.consecutive.proofs.Keeps.{held_aside}
use Rattle.consecutive.proofs.Algorithm.visit.Goals as goal

pub admit-requires : goal.admit-requires
admit-requires g c = record { inside = c.requires.inside; admits = inl refl }

pub returns-then-not-intersects : goal.returns-then-not-intersects
returns-then-not-intersects g c =
    let src = g.S.Source.meaning c.args.source.now in
    let w = c.args.self.now in
    let v = c.admit.new.self in
    let k = c.args.step.row in
    let un : (flags_at (walk w) k).seen ≡ false = sym (ap (λ (f : Flags). f.seen) c.head.ensures.flags) ∙ sym c.if-not-intersects.ensures in
    let x : Ext (walk w) (walk v) = subst (λ (t : Walk). Ext (walk w) t) (sym c.admit.ensures.is) (seen_ext (walk w) k c.requires.inside un) in
    let h = held_aside w.state v.state 0 c.admit.ensures.aside x c.requires.held in
    record {
      is = subst (λ (m : Marks). Visited src (all c.args.ancestors) c.args.step (marks w) (walk w) (Ok tt) m (walk v)) (sym c.admit.ensures.aside.marks) (visit_unseen src (all c.args.ancestors) c.args.step (marks w) (walk w) (walk v) un c.admit.ensures.is);
      keeps = record { held = h.0; grows = x; pays = h.1 };
    }

pub returns-then-not-reach : goal.returns-then-not-reach
returns-then-not-reach g c =
    let src = g.S.Source.meaning c.args.source.now in
    let w = c.args.self.now in
    let se : (flags_at (walk w) c.args.step.row).seen ≡ true = sym (ap (λ (f : Flags). f.seen) c.head.ensures.flags) ∙ sym c.if-not-intersects.ensures in
    record { is = visit_far src (all c.args.ancestors) c.args.step (marks w) (walk w) se (sym c.if-not-reach.ensures); keeps = record { held = c.requires.held; grows = ext_refl (walk w); pays = omega arith } }

pub returns : goal.returns
returns g c =
    let src = g.S.Source.meaning c.args.source.now in
    let w = c.args.self.now in
    let v = c.spread_all.new.self in
    let se : (flags_at (walk w) c.args.step.row).seen ≡ true = sym (ap (λ (f : Flags). f.seen) c.head.ensures.flags) ∙ sym c.if-not-intersects.ensures in
    record { is = visit_near src (all c.args.ancestors) c.args.step (marks w) (marks v) (walk w) (walk v) c.spread_all.result se (sym c.if-not-reach.ensures) c.spread_all.ensures.is; keeps = record { held = c.spread_all.ensures.keeps.held; grows = c.spread_all.ensures.keeps.grows; pays = c.spread_all.ensures.keeps.pays } }
