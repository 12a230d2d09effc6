-- A mark begins: COMMON at the row that was looked up, which alone waits to be marked from.
use Rattle.std.proofs.Common.{◌≡◌, ℕ, ◌+◌, ◌^◌, ◌<◌, ◌≤◌, true, false, [], length, ap, ◌∙◌, arith}
use Rattle.source.specs.declared.ObjectId.{ObjectId}
use Rattle.model.specs.Book.{Source, Walk, Marks, flags_at, place_mark}
use Rattle.model.specs.Steps.{found, Lookup, ok}
use Rattle.model.specs.Skipping.{shared, at_row, alone, Spread, Mark}
use Rattle.model.specs.Steady.{SkipFit, SkipHeld, Ext, opens}
use Rattle.model.proofs.Fits.{lookup_ext}
use Rattle.model.proofs.Good.{ext_trans}
use Rattle.model.proofs.SkipFits.{low, rows_marks}
use Rattle.model.proofs.SkipMoves.{marks_gain, alone_held, mark_all, shared_grows}
use Rattle.walk.specs.declared.state.State.{State}
use Rattle.walk.specs.View.{view, marks, mark_numbered, mark_places, Roomy, Quiet}
use Rattle.walk.proofs.Keeps.{Fits, fits_le}

-- s is looked up in, t is left with the row k, which gets COMMON in u; then the marking queue is cleared and entered
module _ (src : Source) (i : ObjectId) (s t u v w : State) (k : ℕ) (l : Lookup src (view s) i (found k (view t))) (un : (flags_at (view t) k).common ≡ false)
    (eu : view u ≡ shared (view t) k) (mv : marks v ≡ []) (ev : view v ≡ view u) (nv : mark_numbered v ≡ 0) where
  inside : k < length (view t).rows
  inside = (lookup_ext src (view s) i k (view t) l).1

  pub space : Fits SkipFit t → Quiet t u → Roomy u v → length (marks v) < mark_places v
  space F q r =
      let a : length (view t).rows ≤ mark_places t = fits_le SkipFit t _ _ F (λ x. rows_marks (view t) _ _ _ x) in
      omega (arith, a, inside, r.mark_places, q.aside.rooms.mark_places, ap {B = ℕ} (λ (m : Marks). length m) mv)

  pub number : mark_numbered v + 1 < 2 ^ 64
  number = omega (arith, nv)

  module _ (mw : marks w ≡ place_mark (view v).rows (at_row k) (marks v)) (ew : view w ≡ view v) where
    at : marks w ≡ alone (view t) k
    at = marks_gain (view t) (view v) k [] (marks w) inside (ev ∙ eu) (mw ∙ ap {B = Marks} (λ (m : Marks). place_mark (view v).rows (at_row k) m) mv)

    is : view w ≡ shared (view t) k
    is = ew ∙ ev ∙ eu

    pub held : Fits SkipFit t → (flags_at (view t) k).seen ≡ true → mark_numbered w ≤ mark_numbered v + 1 → SkipHeld (view w) (marks w) (mark_numbered w)
    held F se nw =
        let lo : opens (view t) ≤ (view t).count = fits_le SkipFit t _ _ F (λ x. low (view t) _ _ _ x) in
        alone_held (view t) (view w) k (mark_numbered w) (marks w) lo inside un se is at (omega (arith, nw, nv))

    pub marked : (x : Walk) → Spread [] (marks w) (view w) x → Mark src i (view s) (ok x)
    marked x m = mark_all src i (view s) (view t) (view w) x (marks w) k l un is at m

    pub ext : Ext (view s) (view w)
    ext = ext_trans (view s) (view t) (view w) (lookup_ext src (view s) i k (view t) l).0 (shared_grows (view t) (view w) k inside is)
