-- What follows a word at a line's start.
use Rattle.std.proofs.Common.{◌≡◌, ℕ, ◌+◌, Bool, true, false, cond, ◌&&◌, eqb, List, [], ◌∷◌, ◌++◌, length, take, drop, Some, None, Option, sym, refl, ap, ◌∙◌, ⊎_elim, Bor, eq-eqb, MatchOption}
use Rattle.std.specs.List.{list_all, starts_with}
use Rattle.std.specs.Option.{option_map, is_some}
use Rattle.std.specs.Cmp.Lexicographic.{pointwise}
use Rattle.std.proofs.lemmas.Bool.Decides.{eqb_tells, Decides-eqb}
use Rattle.std.proofs.lemmas.Slice.Eq.{starts_is, strip_prefix_is}
use Rattle.source.specs.declared.ObjectId.{ObjectId}
use Rattle.commit.specs.Layout.{behind, nameb, name_of, named}

same : (w x : List ℕ) → behind w (w ++ x) ≡ Some x
same [] x = refl
same (b ∷ w) x = rw (eq-eqb b b refl) (same w x)

unlike : (w l : List ℕ) → ((x : List ℕ) → l ≡ w ++ x → ⊥) → behind w l ≡ None
unlike [] l nay = absurd (nay l refl)
unlike (b ∷ w) [] nay = refl
unlike (b ∷ w) (d ∷ l) nay =
    ⊎_elim
    (λ p. let e = p.1 in rw p.0 (unlike w l (λ x h. nay x (cc))))
    (λ p. rw p.0)
    (eqb_tells b d)

ways : (w l : List ℕ) (r : Option (Bor (List ℕ))) → MatchOption r ((rest : List ℕ) → l ≡ w ++ rest → ⊥) (λ x. l ≡ w ++ x.now) → behind w l ≡ option_map (λ x. x.now) r
ways w l None nay = unlike w l nay
ways w l (Some x) is = ap (behind w) is ∙ same w x.now

-- what `strip_prefix` gives
pub stripped : (w l : List ℕ) (r : Option (Bor (List ℕ))) → MatchOption r (pointwise eqb (take (length w) l) w ≡ false) (λ x. (pointwise eqb (take (length w) l) w ≡ true) × (x.now ≡ drop (length w) l) × (length x.now + length w ≡ length l)) → behind w l ≡ option_map (λ x. x.now) r
stripped w l r h = ways w l r (strip_prefix_is Decides-eqb l w r h)

-- a line that begins with a word
pub behind_is : (w l x : List ℕ) → behind w l ≡ Some x → l ≡ w ++ x
behind_is [] l x e = cc
behind_is (b ∷ w) [] x e = cc
behind_is (b ∷ w) (d ∷ l) x e =
    ⊎_elim
    (λ p. let q = p.1 in let r = behind_is w l x (rw p.0 at e) in cc)
    (λ p. let z = rw p.0 at e in cc)
    (eqb_tells b d)

-- what `starts_with` gives
pub begins : (w l : List ℕ) (r : Bool) → r ≡ starts_with eqb l w → (r ≡ true → behind w l ≡ Some (drop (length w) l)) × (r ≡ false → behind w l ≡ None)
begins w l r h =
    let k = starts_is Decides-eqb l w r h in
    (λ e. ap (behind w) (k.0 e) ∙ same w (drop (length w) l), λ e. unlike w l (λ x p. let z : false ≡ true = sym e ∙ k.1 x p in absurd (cc)))

-- whether a name stands there
named_if : (b : Bool) (x : ObjectId) → b ≡ is_some (cond b (Some x) None)
named_if true x = refl
named_if false x = refl

pub named_is : (o : Option (Bor (List ℕ))) (r : Bool) → MatchOption o (r ≡ false) (λ x. r ≡ nameb x.now) → r ≡ is_some (named (option_map (λ x. x.now) o))
named_is None r h = h
named_is (Some x) r h = h ∙ named_if (nameb x.now) (name_of x.now)

-- a name behind a word, or none
named_by : (ds : List ℕ) (b : Bool) → nameb ds ≡ b → true ≡ is_some (cond b (Some (name_of ds)) None) → nameb ds ≡ true
named_by ds true is e = is
named_by ds false is e = cc

pub named_some : (o : Option (List ℕ)) → true ≡ is_some (named o) → (ds : List ℕ) × (o ≡ Some ds) × (nameb ds ≡ true)
named_some None e = ([], cc, cc)
named_some (Some ds) e = (ds, refl, named_by ds (nameb ds) refl e)

pub named_none : (o : Option ObjectId) → false ≡ is_some o → o ≡ None
named_none None e = refl
named_none (Some x) e = cc

-- a test of each of a list's elements, as `all` gives it
pub all_same : (p : ℕ → Bool) (f : List ℕ → Bool) → f [] ≡ true → ((x : ℕ) (xs : List ℕ) → f (x ∷ xs) ≡ (p x && f xs)) → (xs : List ℕ) → list_all p xs ≡ f xs
all_same p f nil one [] = sym nil
all_same p f nil one (x ∷ xs) = ap (λ (b : Bool). p x && b) (all_same p f nil one xs) ∙ sym (one x xs)
