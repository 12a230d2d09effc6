use Rattle.std.proofs.Common.{sym, ap, ◌∙◌, arith}
use Rattle.model.specs.Book.{Flags}
use Rattle.model.specs.Steady.{SkipFit}
use Rattle.model.proofs.Basics.{find_some}
use Rattle.model.proofs.Good.{ext_refl}
use Rattle.model.proofs.SkipMoves.{one_none, one_had}
use Rattle.walk.proofs.Keeps.{fits_same}
use Rattle.walk.proofs.Views.{found_none, found_some}
use Rattle.skipping.specs.Seen.{walk, marks}
use Rattle.skipping.proofs.Gains.{gain_ext, unseen_is, unseen_keeps, unseen_pays, space, number, seen_is, seen_keeps, seen_ext, seen_pays}
use Rattle.skipping.proofs.Algorithm.spread_one.Goals as goal

pub returns-in_default : goal.returns-in_default
returns-in_default c =
    let w = c.args.self.now in
    record { is = one_none c.args.id (marks w) (walk w) (found_none _ c.in_default.ensures); keeps = record { held = c.requires; grows = ext_refl (walk w); pays = omega arith } }

pub returns-then-intersects : goal.returns-then-intersects
returns-then-intersects c =
    let w = c.args.self.now in
    record { is = one_had c.args.id (marks w) (walk w) c.in-Some.row (found_some _ _ c.in-Some.ensures) (sym (ap (λ (f : Flags). f.common) c.head.ensures.flags) ∙ sym c.if-intersects.ensures); keeps = record { held = c.requires; grows = ext_refl (walk w); pays = omega arith } }

pub make_common-requires : goal.make_common-requires
make_common-requires c =
    let w = c.args.self.now in
    record { inside = (find_some c.args.id (walk w).rows c.in-Some.row (found_some _ _ c.in-Some.ensures)).0; lacks = sym (ap (λ (f : Flags). f.common) c.head.ensures.flags) ∙ sym c.if-intersects.ensures }

pub returns-then-not-intersects : goal.returns-then-not-intersects
returns-then-not-intersects c =
    let w = c.args.self.now in
    let e = found_some _ _ c.in-Some.ensures in
    let un = sym (ap (λ (f : Flags). f.common) c.head.ensures.flags) ∙ sym c.if-intersects.ensures in
    let se = sym (ap (λ (f : Flags). f.seen) c.head.ensures.flags) ∙ sym c.if-not-intersects.ensures in
    let t = c.make_common.new.self.state in
    record {
      is = unseen_is c.args.id w.state t _ e un c.make_common.ensures.quiet c.make_common.ensures.is c.requires se;
      keeps = record { held = unseen_keeps c.args.id w.state t _ e un c.make_common.ensures.quiet c.make_common.ensures.is c.requires; grows = gain_ext c.args.id w.state t _ e un c.make_common.ensures.quiet c.make_common.ensures.is c.requires; pays = unseen_pays c.args.id w.state t _ e un c.make_common.ensures.quiet c.make_common.ensures.is c.requires };
    }

pub enqueue_mark-requires : goal.enqueue_mark-requires
enqueue_mark-requires c =
    let w = c.args.self.now in
    let e = found_some _ _ c.in-Some.ensures in
    let un = sym (ap (λ (f : Flags). f.common) c.head.ensures.flags) ∙ sym c.if-intersects.ensures in
    let t = c.make_common.new.self in
    record {
      space = space c.args.id w.state t.state _ e un c.make_common.ensures.quiet c.make_common.ensures.is c.requires t.fit;
      number = number c.args.id w.state t.state _ e un c.make_common.ensures.quiet c.make_common.ensures.is c.requires t.fit;
    }

pub invariant_of-self : goal.invariant_of-self
invariant_of-self c =
    let t = c.make_common.new.self in
    record { fit = fits_same SkipFit t.state _ t.fit c.enqueue_mark.ensures.only.rooms c.enqueue_mark.ensures.only.same c.enqueue_mark.ensures.only.numbered }

pub returns : goal.returns
returns c =
    let w = c.args.self.now in
    let e = found_some _ _ c.in-Some.ensures in
    let un = sym (ap (λ (f : Flags). f.common) c.head.ensures.flags) ∙ sym c.if-intersects.ensures in
    let se = sym (ap (λ (f : Flags). f.seen) c.head.ensures.flags) ∙ sym c.if-not-intersects.ensures in
    let t = c.make_common.new.self.state in
    let u = c.enqueue_mark.new.self in
    let ens = c.enqueue_mark.ensures in
    record {
      is = seen_is c.args.id w.state t _ e un c.make_common.ensures.quiet c.make_common.ensures.is c.requires se u ens.only.same ens.is ens.number;
      keeps = record { held = seen_keeps c.args.id w.state t _ e un c.make_common.ensures.quiet c.make_common.ensures.is c.requires se u ens.only.same ens.is ens.number; grows = seen_ext c.args.id w.state t _ e un c.make_common.ensures.quiet c.make_common.ensures.is c.requires se u ens.only.same ens.is ens.number; pays = seen_pays c.args.id w.state t _ e un c.make_common.ensures.quiet c.make_common.ensures.is c.requires se u ens.only.same ens.is ens.number };
    }
