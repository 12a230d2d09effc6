use Rattle.std.proofs.Common.{◌≤◌, Some, None, Ok, Err, sym, ap, ◌∙◌, subst, arith}
use Rattle.std.proofs.lemmas.Result.{err_from_is_err_and}
use Rattle.model.specs.Book.{Flags, Marks}
use Rattle.model.specs.Parts.{SpreadOne}
use Rattle.model.specs.Steady.{Fit, common_rows}
use Rattle.model.proofs.Fits.{looks_ext, lookup_ext, commons_most}
use Rattle.model.proofs.Moves.{spread_err, spread_none, spread_had}
use Rattle.walk.proofs.Views.{looks_as}
use Rattle.consecutive.specs.Seen.{walk, marks}
use Rattle.walk.proofs.Keeps.{fits_le, fits_same}
use Rattle.consecutive.proofs.Keeps.{held_quiet}
use Rattle.consecutive.proofs.Spreads.{gain_space, gain_number, gain_is, gain_held, gain_ext, gain_pays}
use Rattle.consecutive.proofs.Algorithm.spread_one.Goals as goal

pub returns-in_err-row : goal.returns-in_err-row
returns-in_err-row g c =
    let src = g.S.Source.meaning c.args.source.now in
    let w = c.args.self.now in
    let u = c.lookup.new.self in
    let l = c.in_err-row.ensures.is in
    let p = err_from_is_err_and c.from_residual.result c.from_residual.ensures.1 in
    let x = looks_ext src (walk w) c.args.id (walk u) (Err c.in_err-row.field-0.0) l in
    let h = held_quiet w.state u.state 0 c.lookup.ensures.quiet x c.requires.held in
    record {
      is = rw (p.1, p.2) (spread_err src c.args.generation c.args.id (marks w) (marks u) (walk w) (walk u) _ l);
      keeps = record { held = h.0; grows = x; pays = h.1 };
    }

pub returns-in_default : goal.returns-in_default
returns-in_default g c =
    let src = g.S.Source.meaning c.args.source.now in
    let w = c.args.self.now in
    let u = c.lookup.new.self in
    let q = c.lookup.ensures.quiet in
    let l = looks_as src (walk w) c.args.id (walk u) _ None c.in_default.is c.in_ok-row.ensures.is in
    let x = looks_ext src (walk w) c.args.id (walk u) (Ok None) l in
    let h = held_quiet w.state u.state 0 q x c.requires.held in
    record {
      is = subst (λ (m : Marks). SpreadOne src c.args.generation c.args.id (marks w) (walk w) (Ok tt) m (walk u)) (sym q.aside.marks) (spread_none src c.args.generation c.args.id (marks w) (walk w) (walk u) l);
      keeps = record { held = h.0; grows = x; pays = h.1 };
    }

pub returns-then-intersects : goal.returns-then-intersects
returns-then-intersects g c =
    let src = g.S.Source.meaning c.args.source.now in
    let w = c.args.self.now in
    let t = walk c.lookup.new.self in
    let k = c.in-Some.row in
    let l = looks_as src (walk w) c.args.id t _ (Some k) c.in-Some.is c.in_ok-row.ensures.is in
    let common = sym (ap (λ (f : Flags). f.common) c.head.ensures.flags) ∙ sym c.if-intersects.ensures in
    let u = c.lookup.new.self in
    let q = c.lookup.ensures.quiet in
    let x = looks_ext src (walk w) c.args.id t (Ok (Some k)) l in
    let h = held_quiet w.state u.state 0 q x c.requires.held in
    record {
      is = subst (λ (m : Marks). SpreadOne src c.args.generation c.args.id (marks w) (walk w) (Ok tt) m t) (sym q.aside.marks) (spread_had src c.args.generation c.args.id (marks w) (walk w) t k l common);
      keeps = record { held = h.0; grows = x; pays = h.1 };
    }

pub make_common-requires : goal.make_common-requires
make_common-requires g c =
    let src = g.S.Source.meaning c.args.source.now in
    let w = c.args.self.now in
    let t = walk c.lookup.new.self in
    let k = c.in-Some.row in
    let l = looks_as src (walk w) c.args.id t _ (Some k) c.in-Some.is c.in_ok-row.ensures.is in
    let common = sym (ap (λ (f : Flags). f.common) c.head.ensures.flags) ∙ sym c.if-intersects.ensures in
    record { inside = (lookup_ext src (walk w) c.args.id k t l).1; lacks = common }

pub overflow_add-generation : goal.overflow_add-generation
overflow_add-generation g c =
    let w = c.args.self.now in
    let b : common_rows (walk w) ≤ 65535 = fits_le Fit w.state _ _ w.fit (λ F. commons_most (walk w) _ _ _ F) in
    omega (arith, b, c.requires.young)

pub enqueue_mark-requires : goal.enqueue_mark-requires
enqueue_mark-requires g c =
    let src = g.S.Source.meaning c.args.source.now in
    let w = c.args.self.now in
    let t = walk c.lookup.new.self in
    let k = c.in-Some.row in
    let l = looks_as src (walk w) c.args.id t _ (Some k) c.in-Some.is c.in_ok-row.ensures.is in
    let common = sym (ap (λ (f : Flags). f.common) c.head.ensures.flags) ∙ sym c.if-intersects.ensures in
    let F = c.make_common.new.self.fit in
    record { space = gain_space src c.args.generation c.args.id w.state c.make_common.new.self.state t k l common c.make_common.ensures.is (c.make_common.ensures.quiet.aside.marks ∙ c.lookup.ensures.quiet.aside.marks) (c.make_common.ensures.quiet.aside.mark_numbered ∙ c.lookup.ensures.quiet.aside.mark_numbered) c.requires.held F; number = gain_number src c.args.generation c.args.id w.state c.make_common.new.self.state t k l common c.make_common.ensures.is (c.make_common.ensures.quiet.aside.marks ∙ c.lookup.ensures.quiet.aside.marks) (c.make_common.ensures.quiet.aside.mark_numbered ∙ c.lookup.ensures.quiet.aside.mark_numbered) c.requires.held F }

pub invariant_of-self : goal.invariant_of-self
invariant_of-self g c = record { fit = fits_same Fit c.make_common.new.self.state _ c.make_common.new.self.fit c.enqueue_mark.ensures.only.rooms c.enqueue_mark.ensures.only.same c.enqueue_mark.ensures.only.numbered }

pub returns : goal.returns
returns g c =
    let src = g.S.Source.meaning c.args.source.now in
    let w = c.args.self.now in
    let t = walk c.lookup.new.self in
    let k = c.in-Some.row in
    let l = looks_as src (walk w) c.args.id t _ (Some k) c.in-Some.is c.in_ok-row.ensures.is in
    let common = sym (ap (λ (f : Flags). f.common) c.head.ensures.flags) ∙ sym c.if-intersects.ensures in
    record {
      is = gain_is src c.args.generation c.args.id w.state c.make_common.new.self.state t k l common c.make_common.ensures.is (c.make_common.ensures.quiet.aside.marks ∙ c.lookup.ensures.quiet.aside.marks) (c.make_common.ensures.quiet.aside.mark_numbered ∙ c.lookup.ensures.quiet.aside.mark_numbered) c.requires.held c.enqueue_mark.new.self c.enqueue_mark.ensures.only.same c.enqueue_mark.ensures.is c.enqueue_mark.ensures.number;
      keeps = record { held = gain_held src c.args.generation c.args.id w.state c.make_common.new.self.state t k l common c.make_common.ensures.is (c.make_common.ensures.quiet.aside.marks ∙ c.lookup.ensures.quiet.aside.marks) (c.make_common.ensures.quiet.aside.mark_numbered ∙ c.lookup.ensures.quiet.aside.mark_numbered) c.requires.held c.enqueue_mark.new.self c.enqueue_mark.ensures.only.same c.enqueue_mark.ensures.is c.enqueue_mark.ensures.number c.requires.young; grows = gain_ext src c.args.generation c.args.id w.state c.make_common.new.self.state t k l common c.make_common.ensures.is (c.make_common.ensures.quiet.aside.marks ∙ c.lookup.ensures.quiet.aside.marks) (c.make_common.ensures.quiet.aside.mark_numbered ∙ c.lookup.ensures.quiet.aside.mark_numbered) c.requires.held c.enqueue_mark.new.self c.enqueue_mark.ensures.only.same c.enqueue_mark.ensures.is c.enqueue_mark.ensures.number; pays = gain_pays src c.args.generation c.args.id w.state c.make_common.new.self.state t k l common c.make_common.ensures.is (c.make_common.ensures.quiet.aside.marks ∙ c.lookup.ensures.quiet.aside.marks) (c.make_common.ensures.quiet.aside.mark_numbered ∙ c.lookup.ensures.quiet.aside.mark_numbered) c.requires.held c.enqueue_mark.new.self c.enqueue_mark.ensures.only.same c.enqueue_mark.ensures.is c.enqueue_mark.ensures.number };
    }
