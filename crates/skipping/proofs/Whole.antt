-- A walk that begins, and a note: what the negotiator's type says of the state. An acknowledgement: whether it is accepted.
use Rattle.std.proofs.Common.{◌≡◌, ℕ, Bool, true, false, cond, Ok, Err, Result, sym, refl, subst, inl, inr, arith}
use Rattle.source.specs.declared.ObjectId.{ObjectId}
use Rattle.book.specs.declared.types.Denial.{Denial}
use Rattle.book.specs.declared.types.Denial.TheVariants.{NotSeen}
use Rattle.book.specs.declared.types.Remark.{Remark}
use Rattle.model.specs.declared.Algorithm.TheVariants as algorithm
use Rattle.model.specs.declared.Call.TheVariants.{Note}
use Rattle.model.specs.declared.Reply.{Reply}
use Rattle.model.specs.Book.{Source, Walk, made}
use Rattle.model.specs.Steps as steps
use Rattle.model.specs.Steps.{Noted}
use Rattle.model.specs.Skipping.{Ran}
use Rattle.model.specs.Past.{does, Called}
use Rattle.model.specs.Steady.{SkipFit}
use Rattle.model.proofs.SkipFits.{begun_fit, stop_fit, note_fit}
use Rattle.walk.specs.declared.state.State.{State}
use Rattle.walk.specs.Made.{most_rows}
use Rattle.walk.specs.View.{view, numbered, places, mark_places, Quiet}
use Rattle.walk.proofs.Keeps.{Fits, fits_quiet}

pub begun_fits : (s : State) (rows links queue marking : ℕ) → view s ≡ made (most_rows rows queue marking) links → numbered s ≡ 0 → places s ≡ queue → mark_places s ≡ marking → Fits SkipFit s
begun_fits s rows links queue marking is n p m =
    let F : SkipFit (made (most_rows rows queue marking) links) 0 (places s) (mark_places s) = begun_fit (most_rows rows queue marking) links (places s) (mark_places s) (omega (arith, p)) (omega (arith, m)) (omega arith) in
    ∣ subst (λ (w : Walk). SkipFit w (numbered s) (places s) (mark_places s)) (sym is) (subst (λ (k : ℕ). SkipFit (made (most_rows rows queue marking) links) k (places s) (mark_places s)) (sym n) F) ∣₁

noted_fit : (src : Source) (b : Remark) (i : ObjectId) (s t : Walk) (a : Reply) (n p m : ℕ) → Noted src s b i a t → SkipFit s n p m → SkipFit t n p m
noted_fit src b i s t a n p m (steps.Noted.barred l) F = stop_fit s n p m F
noted_fit src b i s t a n p m (steps.Noted.gone l) F = F
noted_fit src b i s t a n p m (steps.Noted.set_at {k = k} {s' = u} l) F = note_fit src b i s u k n p m l F

ran_noted : (src : Source) (b : Remark) (i : ObjectId) (s t : Walk) (a : Reply) → Ran src s (Note i b) a t → Noted src s b i a t
ran_noted src b i s t a (Ran.notes h) = h

pub noted_fits : (src : Source) (b : Remark) (i : ObjectId) (s t : State) (a : Reply) → Called (does algorithm.Skipping src) (view s) (Note i b) a (view t) → Quiet s t → Fits SkipFit s → Fits SkipFit t
noted_fits src b i s t a (inl (x, y, is)) q F = fits_quiet SkipFit s t F q (λ n p m f. subst (λ (w : Walk). SkipFit w n p m) (sym is) f)
noted_fits src b i s t a (inr (x, h)) q F = fits_quiet SkipFit s t F q (λ n p m f. noted_fit src b i (view s) (view t) a n p m (ran_noted src b i (view s) (view t) a h) f)

-- what an acknowledged commit was known as, or that it was not seen
pub known_err : (b c : Bool) (d : Denial) → ◌≡◌ {A = Result Bool Denial} (Err d) (cond b (Ok c) (Err NotSeen)) → (b ≡ false) × (d ≡ NotSeen)
known_err true c d h = let z : ◌≡◌ {A = ℕ} 0 1 = cc in absurd (omega arith)
known_err false c d h = let e : d ≡ NotSeen = cc in (refl, e)

pub known_ok : (b c a : Bool) → ◌≡◌ {A = Result Bool Denial} (Ok a) (cond b (Ok c) (Err NotSeen)) → (b ≡ true) × (a ≡ c)
known_ok true c a h = let e : a ≡ c = cc in (refl, e)
known_ok false c a h = let z : ◌≡◌ {A = ℕ} 0 1 = cc in absurd (omega arith)
