-- What a buffer holds that a closure filled.
use Rattle.std.proofs.Common.{◌≡◌, List, [], ◌∷◌, length, replicate, refl, ap, ◌∙◌, subst}
use Rattle.std.specs.List.{FoldsTo}

-- a closure that always answers `e` and stays as it is
pub filled : {P A : Type 0} (R : P → A → P → Type 0) (f last : P) (e : A) (xs : List A) → ((x : A) (g : P) → R f x g → (x ≡ e) × (g ≡ f)) → FoldsTo R f xs last → xs ≡ replicate (length xs) e
filled R f last e [] same ran = refl
filled R f last e (x ∷ xs) same ran =
    let s = same x ran.0 ran.1 in
    ap (λ y. y ∷ xs) s.0 ∙ ap (λ ys. e ∷ ys) (filled R f last e xs same (subst (λ g. FoldsTo R g xs last) s.1 ran.2))
