use Rattle.std.proofs.Common.{ℕ, ◌≤◌, length, ap, ◌∙◌, arith}
use Rattle.model.specs.Book.{Marks}
use Rattle.model.specs.Steady.{Fit}
use Rattle.model.proofs.Fits.{rows_marks}
use Rattle.walk.specs.View.{view, mark_places}
use Rattle.walk.proofs.Keeps.{fits_le, fits_same, rooms_trans}
use Rattle.consecutive.proofs.Spreads.{alone_is, alone_same, alone_held}
use Rattle.consecutive.proofs.Algorithm.begin_marking.Goals as goal

pub enqueue_mark-requires : goal.enqueue_mark-requires
enqueue_mark-requires c =
    let w = c.args.self.now in
    let b : length (view w.state).rows ≤ mark_places w.state = fits_le Fit w.state _ _ w.fit (λ F. rows_marks (view w.state) _ _ _ F) in
    let e = ap {B = ℕ} (λ (q : Marks). length q) c.clear_marks.ensures.is in
    record { space = omega (arith, b, e, c.requires, c.clear_marks.ensures.only.rooms.mark_places); number = omega (arith, c.clear_marks.ensures.number) }

pub invariant_of-self : goal.invariant_of-self
invariant_of-self c =
    record { fit = fits_same Fit c.args.self.now.state c.enqueue_mark.new.self c.args.self.now.fit (rooms_trans _ _ _ c.clear_marks.ensures.only.rooms c.enqueue_mark.ensures.only.rooms) (c.enqueue_mark.ensures.only.same ∙ c.clear_marks.ensures.only.same) (c.enqueue_mark.ensures.only.numbered ∙ c.clear_marks.ensures.only.numbered) }

pub returns : goal.returns
returns c = record { is = alone_is c.args.self.now.state c.clear_marks.new.self c.enqueue_mark.new.self c.args.row c.requires c.clear_marks.ensures.only.same c.clear_marks.ensures.is c.clear_marks.ensures.number c.enqueue_mark.ensures.only.same c.enqueue_mark.ensures.is c.enqueue_mark.ensures.number; same = alone_same c.args.self.now.state c.clear_marks.new.self c.enqueue_mark.new.self c.args.row c.requires c.clear_marks.ensures.only.same c.clear_marks.ensures.is c.clear_marks.ensures.number c.enqueue_mark.ensures.only.same c.enqueue_mark.ensures.is c.enqueue_mark.ensures.number; held = alone_held c.args.self.now.state c.clear_marks.new.self c.enqueue_mark.new.self c.args.row c.requires c.clear_marks.ensures.only.same c.clear_marks.ensures.is c.clear_marks.ensures.number c.enqueue_mark.ensures.only.same c.enqueue_mark.ensures.is c.enqueue_mark.ensures.number }
