-- Arrays that a closure made.
use Rattle.std.proofs.Common.{◌≡◌, ℕ, zero, suc, ◌+◌, ◌<◌, ◌≤◌, List, get_or, sym, ap, subst, ⊎_elim, ◌∙◌, arith}
use Rattle.std.proofs.Math.Nat.{eq-or-lt_of_le}
use Rattle.std.specs.Fn.{Called}
use Rattle.std.specs.Array.{IsFromFnResultFrom}
use denote.Param.Members.{Mut}

-- the elements of an array that a closure made, where it is the same at each call
pub from_fn_all : {F : Type 0} (g : Mut F (ℕ × Unit {0}) ℕ) (f : F) (h : ℕ → ℕ) → ((i y : ℕ) (q : F) → Called g f (i, tt) y q → (q ≡ f) × (y ≡ h i)) → (ys : List ℕ) (i n : ℕ) (p : F) → p ≡ f → IsFromFnResultFrom g p ys i n → (k : ℕ) → i ≤ k → k < i + n → get_or ys k 0 ≡ h k
from_fn_all g f h each ys i zero p is r k le lt = absurd (omega arith)
from_fn_all g f h each ys i (suc n) p is r k le lt =
    let now = each i r.1 r.0 (subst (λ (s : _). Called g s (i, tt) r.1 r.0) is r.3) in
    ⊎_elim
    (λ (e : i ≡ k). ap (λ (j : ℕ). get_or ys j 0) (sym e) ∙ r.2.1 0 ∙ now.1 ∙ ap h e)
    (λ (l : i < k). from_fn_all g f h each ys (i + 1) n r.0 now.0 r.4 k (omega arith) (omega arith))
    (eq-or-lt_of_le le)
