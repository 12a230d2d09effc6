-- A row gains COMMON, and waits to be marked from: what the code's steps need, and what they leave.
use Rattle.std.proofs.Common.{◌≡◌, ℕ, ◌+◌, ◌^◌, ◌<◌, ◌≤◌, true, false, length, sym, ap, ◌∙◌, subst, arith}
use mathlib.Core.Option.{some}
use Rattle.source.specs.declared.ObjectId.{ObjectId}
use Rattle.queue.specs.Waiting.{enter}
use Rattle.model.specs.Book.{Walk, Marks, row, flags_at, find, place_mark}
use Rattle.model.specs.Skipping.{shared, at_row}
use Rattle.model.specs.SkipParts.{SpreadOne}
use Rattle.model.specs.Steady.{SkipFit, SkipHeld, Ext, common_rows}
use Rattle.model.proofs.Basics.{find_some}
use Rattle.model.proofs.SkipFits.{share_fit, commons_le, commons_most}
use Rattle.model.proofs.SkipMoves.{marks_gain, one_unseen, one_gains, unseen_held, gains_held, gains_room, gains_pays, shared_grows}
use Rattle.walk.specs.declared.state.State.{State}
use Rattle.walk.specs.View.{view, marks, mark_numbered, mark_places, Quiet}
use Rattle.walk.proofs.Keeps.{Fits, fits_le, fits_quiet}

pub shared_fits : (s t : State) (k : ℕ) → Fits SkipFit s → k < length (view s).rows → (flags_at (view s) k).common ≡ false → Quiet s t → view t ≡ shared (view s) k → Fits SkipFit t
shared_fits s t k F l un q is = fits_quiet SkipFit s t F q (λ n p m x. subst (λ (w : Walk). SkipFit w n p m) (sym is) (share_fit (view s) k n p m x l un))

-- the row of a parent lacked COMMON
module _ (p : ObjectId) (s t : State) (k : ℕ) (e : find p (view s).rows ≡ some k) (un : (flags_at (view s) k).common ≡ false) (q : Quiet s t) (is : view t ≡ shared (view s) k)
    (H : SkipHeld (view s) (marks s) (mark_numbered s)) where
  l : k < length (view s).rows
  l = (find_some p (view s).rows k e).0

  pub gain_ext : Ext (view s) (view t)
  gain_ext = shared_grows (view s) (view t) k l is

  -- and SEEN
  pub unseen_is : (flags_at (view s) k).seen ≡ false → SpreadOne p (marks s) (view s) (marks t) (view t)
  unseen_is se = subst (λ (m : Marks). SpreadOne p (marks s) (view s) m (view t)) (sym q.aside.marks) (one_unseen p (marks s) (view s) (view t) k e un se is)

  pub unseen_keeps : SkipHeld (view t) (marks t) (mark_numbered t)
  unseen_keeps = subst (λ (m : Marks). SkipHeld (view t) m (mark_numbered t)) (sym q.aside.marks)
      (subst (λ (n : ℕ). SkipHeld (view t) (marks s) n) (sym q.aside.mark_numbered) (unseen_held (view s) (view t) k (mark_numbered s) (marks s) H l un is))

  pub unseen_pays : length (marks t) + common_rows (view s) ≤ length (marks s) + common_rows (view t)
  unseen_pays = omega (arith, gain_ext.commons, ap {B = ℕ} (λ (m : Marks). length m) q.aside.marks)

  -- or had SEEN
  pub space : Fits SkipFit t → length (marks t) < mark_places t
  space F =
      let b : common_rows (view t) ≤ mark_places t = fits_le SkipFit t _ _ F (λ x. commons_le (view t) _ _ _ x) in
      let r = gains_room (view s) (view t) k (mark_numbered s) (marks s) H l un is (mark_places t) b in
      omega (arith, r.0, ap {B = ℕ} (λ (m : Marks). length m) q.aside.marks)

  pub number : Fits SkipFit t → mark_numbered t + 1 < 2 ^ 64
  number F =
      let b : common_rows (view t) ≤ 65535 = fits_le SkipFit t _ _ F (λ x. commons_most (view t) _ _ _ x) in
      let r = gains_room (view s) (view t) k (mark_numbered s) (marks s) H l un is 65535 b in
      omega (arith, r.1, q.aside.mark_numbered)

  module _ (se : (flags_at (view s) k).seen ≡ true) (u : State) (eu : view u ≡ view t) (mu : marks u ≡ place_mark (view t).rows (at_row k) (marks t)) (nu : mark_numbered u ≤ mark_numbered t + 1) where
    at : marks u ≡ enter (record { date = (row (view s) k).date; value = at_row k }) (marks s)
    at = marks_gain (view s) (view t) k (marks s) (marks u) l is (mu ∙ ap {B = Marks} (λ (m : Marks). place_mark (view t).rows (at_row k) m) q.aside.marks)

    now_is : view u ≡ shared (view s) k
    now_is = eu ∙ is

    pub seen_is : SpreadOne p (marks s) (view s) (marks u) (view u)
    seen_is = one_gains p (marks s) (marks u) (view s) (view u) k e un se now_is at

    pub seen_keeps : SkipHeld (view u) (marks u) (mark_numbered u)
    seen_keeps = gains_held (view s) (view u) k (mark_numbered s) (marks s) H l un now_is (mark_numbered u) (marks u) se at (omega (arith, nu, q.aside.mark_numbered))

    pub seen_ext : Ext (view s) (view u)
    seen_ext = shared_grows (view s) (view u) k l now_is

    pub seen_pays : length (marks u) + common_rows (view s) ≤ length (marks s) + common_rows (view u)
    seen_pays = gains_pays (view s) (view u) k (mark_numbered s) (marks s) H l un now_is (marks u) (row (view s) k).date at
