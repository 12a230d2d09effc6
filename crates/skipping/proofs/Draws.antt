-- Draws from the marking queue.
use Rattle.std.proofs.Common.{◌≡◌, ℕ, suc, [], ◌∷◌, length, ℤ, Some, None, sym, ap, ◌∙◌, subst}
use Rattle.model.specs.declared.Step.{Step}
use Rattle.model.specs.Book.{Walk, Marks}
use Rattle.model.specs.Skipping as steps
use Rattle.model.specs.Skipping.{Spread}
use Rattle.model.specs.Steady.{SkipHeld}
use Rattle.walk.specs.declared.state.State.{State}
use Rattle.walk.specs.View.{view, marks, mark_numbered, DrewMark}

module _ (s t : State) (x : Step) (h : DrewMark (marks s) (Some x) (marks t)) (same : view t ≡ view s) where
  at : marks s ≡ record { date = h.0.date; value = x } ∷ marks t
  at = h.1 ∙ ap {B = Marks} (λ (y : Step). record { date = h.0.date; value = y } ∷ marks t) h.2

  pub drew_held : mark_numbered t ≡ mark_numbered s → SkipHeld (view s) (marks s) (mark_numbered s) → (d : ℤ) × SkipHeld (view t) (record { date = d; value = x } ∷ marks t) (mark_numbered t)
  drew_held n H = (
    h.0.date,
    subst (λ (w : Walk). SkipHeld w (record { date = h.0.date; value = x } ∷ marks t) (mark_numbered t)) (sym same)
        (subst (λ (y : ℕ). SkipHeld (view s) (record { date = h.0.date; value = x } ∷ marks t) y) (sym n) (subst (λ (m : Marks). SkipHeld (view s) m (mark_numbered s)) at H)),
  )

  pub drew_step : (u : Walk) → ((d : ℤ) → Spread [] (record { date = d; value = x } ∷ marks t) (view t) u) → Spread [] (marks s) (view s) u
  drew_step u f = subst (λ (w : Walk). Spread [] (marks s) w u) same (subst (λ (m : Marks). Spread [] m (view t) u) (sym at) (f h.0.date))

  pub drew_less : length (marks s) ≡ suc (length (marks t))
  drew_less = ap {B = ℕ} (λ (m : Marks). length m) at

pub drew_last : (s t : State) → DrewMark (marks s) None (marks t) → view t ≡ view s → Spread [] (marks s) (view s) (view t)
drew_last s t h same = subst (λ (w : Walk). Spread [] (marks s) (view s) w) (sym same) (subst (λ (m : Marks). Spread [] m (view s) (view s)) (sym h.0) steps.Spread.finished)
