-- A row drawn from the queue: what the draw leaves, and what the negotiators' types say of it.
use Rattle.std.proofs.Common.{Some, None, Option, ◌≡◌, ℕ, suc, ◌<◌, ◌≤◌, ◌∷◌, length, sym, ap, ◌∙◌, subst, inl, inr, arith}
use Rattle.queue.specs.declared.entry.Entry.{Entry}
use Rattle.model.specs.Book.{Walk, Waits, drawn}
use Rattle.model.specs.Steps.{taken}
use Rattle.model.specs.Steady.{Ext}
use Rattle.model.proofs.Fits.{taken_ext, taken_long}
use Rattle.model.proofs.Good.{ext_refl}
use Rattle.model.proofs.Runs.{drawn_ext}
use Rattle.walk.specs.declared.state.State.{State}
use Rattle.walk.specs.declared.state.drawing.Drawn.{Drawn}
use Rattle.walk.specs.View.{view, Quiet}
use Rattle.walk.specs.Drawing.{DrewNone, Popped, DrewRow}
use Rattle.walk.proofs.Keeps.{Fits, fits_le, fits_quiet}

pub none_ext : (s t : Walk) → DrewNone s t → Ext s t
none_ext s t (inl (e, f)) = subst (λ (x : Walk). Ext s x) (sym f) (ext_refl s)
none_ext s t (inr (e, q, w, z, f)) = subst (λ (x : Walk). Ext s x) (sym f) (drawn_ext s e q w)

module _ (s : Walk) (d : Drawn) (t : Walk) (P : Popped s d t) (i : d.row < length s.rows) where
  pub popped_ext : Ext s t
  popped_ext = subst (λ (x : Walk). Ext s x) (sym P.is) (taken_ext s d.row P.entry P.rest i P.waited)

  pub popped_inside : d.row < length t.rows
  popped_inside = omega (arith, i, ap (λ (w : Walk). length w.rows) P.is, taken_long s d.row P.rest)

-- what a negotiator's type says of its state
module _ (P : Walk → ℕ → ℕ → ℕ → Type 0) where
  none_fits : ((w : Walk) (n p m : ℕ) (e : Entry ℕ) (q : Waits) → P w n p m → w.queue ≡ e ∷ q → w.count ≡ 0 → P (drawn w q) n p m)
      → (s t : State) → Fits P s → Quiet s t → DrewNone (view s) (view t) → Fits P t
  none_fits spent s t F q (inl (e, f)) = fits_quiet P s t F q (λ n p m x. subst (λ (w : Walk). P w n p m) (sym f) x)
  none_fits spent s t F q (inr (e, r, w, z, f)) = fits_quiet P s t F q (λ n p m x. subst (λ (y : Walk). P y n p m) (sym f) (spent (view s) n p m e r x w z))

  popped_fits : ((w : Walk) (n p m : ℕ) (e : Entry ℕ) (q : Waits) → P w n p m → w.queue ≡ e ∷ q → P (taken w e.value q) n p m)
      → (s t : State) (d : Drawn) → Fits P s → Quiet s t → Popped (view s) d (view t) → Fits P t
  popped_fits takes s t d F q D = fits_quiet P s t F q
      (λ n p m x. subst (λ (w : Walk). P w n p m) (ap (λ (j : ℕ). taken (view s) j D.rest) D.value ∙ sym D.is) (takes (view s) n p m D.entry D.rest x D.waited))

  pub draw_fits : ((w : Walk) (n p m : ℕ) (e : Entry ℕ) (q : Waits) → P w n p m → w.queue ≡ e ∷ q → w.count ≡ 0 → P (drawn w q) n p m)
      → ((w : Walk) (n p m : ℕ) (e : Entry ℕ) (q : Waits) → P w n p m → w.queue ≡ e ∷ q → P (taken w e.value q) n p m)
      → (s t : State) (r : Option Drawn) → Fits P s → Quiet s t → DrewRow (view s) r (view t) → Fits P t
  draw_fits spent takes s t None F q h = none_fits spent s t F q h
  draw_fits spent takes s t (Some d) F q h = popped_fits takes s t d F q h

  pub inside : ((w : Walk) (n p m : ℕ) (e : Entry ℕ) (q : Waits) → P w n p m → w.queue ≡ e ∷ q → e.value < length w.rows)
      → (s : State) (t : Walk) (d : Drawn) → Fits P s → Popped (view s) d t → d.row < length (view s).rows
  inside there s t d F D =
      let a : suc D.entry.value ≤ length (view s).rows = fits_le P s _ _ F (λ x. there (view s) _ _ _ D.entry D.rest x D.waited) in
      omega (arith, a, D.value)
