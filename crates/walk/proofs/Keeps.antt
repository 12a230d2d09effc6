-- What a negotiator's type says of its state, kept by the state's steps. P speaks of the walk, of the queue's numbers and places, and of the marking places.
use Rattle.std.proofs.Common.{◌≡◌, ℕ, ◌≤◌, min, Err, vec_len, sym, refl, ◌∙◌, subst, inl, inr, arith}
use mathlib.Core.Logic.{∥∥₁_elim, ∥∥₁_map}
use native.Mathlib.Bridge.{le_prop}
use Rattle.source.specs.declared.ObjectId.{ObjectId}
use Rattle.book.specs.declared.types.Remark.{Remark}
use Rattle.model.specs.declared.Algorithm.TheVariants as algorithm
use Rattle.model.specs.declared.Call.TheVariants.{Note}
use Rattle.model.specs.declared.Reply.{Reply}
use Rattle.model.specs.Book.{Source, Walk, made, stop}
use Rattle.model.specs.Steps
use Rattle.model.specs.Consecutive
use Rattle.model.specs.Past.{does, Called}
use Rattle.model.specs.Steady.{Fit}
use Rattle.model.proofs.Calls.{begun_fit, note_fit}
use Rattle.model.proofs.Fits.{looks_fit}
use Rattle.walk.specs.Made.{Returned}
use Rattle.walk.specs.declared.state.making.Buffers.{Buffers}
use Rattle.walk.specs.declared.state.State.{State}
use Rattle.walk.specs.View.{view, numbered, places, mark_places, Roomy, Aside, Quiet}

abbrev pub Fits : (Walk → ℕ → ℕ → ℕ → Type 0) → State → Type 0
Fits P s = ∥ P (view s) (numbered s) (places s) (mark_places s) ∥₁

module _ (P : Walk → ℕ → ℕ → ℕ → Type 0) where
  pub fits_le : (s : State) (a b : ℕ) → Fits P s → (P (view s) (numbered s) (places s) (mark_places s) → a ≤ b) → a ≤ b
  fits_le s a b F f = ∥∥₁_elim F le_prop f

  -- the same room, and numbers that grew as the step allows
  pub fits_step : (s t : State) → Fits P s → Roomy s t → (P (view s) (numbered s) (places s) (mark_places s) → P (view t) (numbered t) (places s) (mark_places s)) → Fits P t
  fits_step s t F r f = ∥∥₁_map F (λ x. subst (λ (p : ℕ). P (view t) (numbered t) p (mark_places t)) (sym r.places) (subst (λ (m : ℕ). P (view t) (numbered t) (places s) m) (sym r.mark_places) (f x)))

  pub fits_quiet : (s t : State) → Fits P s → Quiet s t → ((n p m : ℕ) → P (view s) n p m → P (view t) n p m) → Fits P t
  fits_quiet s t F q f = fits_step s t F q.aside.rooms (λ x. subst (λ (n : ℕ). P (view t) n (places s) (mark_places s)) (sym q.numbered) (f (numbered s) (places s) (mark_places s) x))

  -- the same walk
  pub fits_same : (s t : State) → Fits P s → Roomy s t → view t ≡ view s → numbered t ≡ numbered s → Fits P t
  fits_same s t F r e n = fits_step s t F r (λ x. subst (λ (k : ℕ). P (view t) k (places s) (mark_places s)) (sym n) (subst (λ (w : Walk). P w (numbered s) (places s) (mark_places s)) (sym e) x))

pub rooms_trans : (s t u : State) → Roomy s t → Roomy t u → Roomy s u
rooms_trans s t u a b = record { places = b.places ∙ a.places; mark_places = b.mark_places ∙ a.mark_places }

pub aside_trans : (s t u : State) → Aside s t → Aside t u → Aside s u
aside_trans s t u a b = record { rooms = rooms_trans s t u a.rooms b.rooms; marks = b.marks ∙ a.marks; mark_numbered = b.mark_numbered ∙ a.mark_numbered }

pub quiet_trans : (s t u : State) → Quiet s t → Quiet t u → Quiet s u
quiet_trans s t u a b = record { aside = aside_trans s t u a.aside b.aside; numbered = b.numbered ∙ a.numbered }

-- a note
pub note_keeps : (src : Source) (s t : Walk) (i : ObjectId) (r : Remark) (a : Reply) (n p m : ℕ) → Called (does algorithm.Consecutive src) s (Note i r) a t → Fit s n p m → Fit t n p m
note_keeps src s t i r a n p m (inl (st, ea, et)) F = subst (λ (x : Walk). Fit x n p m) (sym et) F
note_keeps src s t i r a n p m (inr (ns, Consecutive.Ran.notes (Steps.Noted.barred {d = d} l))) F = looks_fit src s i (stop s) (Err d) n p m (l, refl) F
note_keeps src s t i r a n p m (inr (ns, Consecutive.Ran.notes (Steps.Noted.gone l))) F = F
note_keeps src s t i r a n p m (inr (ns, Consecutive.Ran.notes (Steps.Noted.set_at {k = k} {s' = u} l))) F = note_fit src r i s u k n p m l F

-- the first state
pub begun_fits : (s : State) (n l : ℕ) → view s ≡ made n l → numbered s ≡ 0 → n ≤ places s → n ≤ mark_places s → n ≤ 65535 → Fit (view s) (numbered s) (places s) (mark_places s)
begun_fits s n l e z a b c = subst (λ (x : Walk). Fit x (numbered s) (places s) (mark_places s)) (sym e) (subst (λ (k : ℕ). Fit (made n l) k (places s) (mark_places s)) (sym z) (begun_fit n l (places s) (mark_places s) a b c))

-- the buffers of a state whose places suffice
module _ (P : Walk → ℕ → ℕ → ℕ → Type 0) (enough : (w : Walk) (n p m : ℕ) → P w n p m → w.most_rows ≤ min p m) where
  pub returned : (s : State) (b : Buffers) → Fits P s → (view s).most_rows ≤ min 65535 (vec_len b.rows) → vec_len b.links ≡ (view s).most_links → (vec_len b.queue ≡ places s) × (vec_len b.marking ≡ mark_places s) → Returned (view s) b
  returned s b F r l e = record {
    rows = omega (arith, r, fits_le P s (view s).most_rows (min (places s) (mark_places s)) F (enough (view s) (numbered s) (places s) (mark_places s)), e.0, e.1);
    links = l;
  }
