-- The draw order depends only on which places there are.
use Rattle.std.proofs.Common.{◌≡◌, ℕ, zero, suc, ◌+◌, ◌<◌, ◌≤◌, Bool, true, false, cond, eqb, ltb, ◌⊎◌, List, [], ◌∷◌, map, ℤ, sym, refl, ap, ◌∙◌, subst, inl, inr, ⊎_elim, arith, eq-eqb, eqb-true}
use lib.Signed.{lt_z}
use Rattle.std.specs.List.Sorted.{IsPermutation}
use Rattle.std.specs.List.{ContainsAt as Has, AllByRecursion}
use Rattle.std.proofs.ByRecursion.{all-has, All-weaker, has_shuffled, all_shuffled}
use Rattle.std.proofs.lemmas.Int.{ints}
use Rattle.std.proofs.lemmas.List.Sums.{sum_by-cons}
use Rattle.std.proofs.lemmas.List.Sorted.{IsPermutation-refl, IsPermutation-sym, IsPermutation-trans, IsPermutation-cons, IsPermutation-swap, sum_by-IsPermutation}
use Rattle.queue.specs.declared.entry.Place.{Place}
use Rattle.queue.specs.Waiting.{enter}
use Rattle.queue.specs.Places.{entry}
use Rattle.queue.specs.Order.{before, put, ordered, waits, Apart, Below, many}

-- the order on dates and numbers
key : ℤ → ℕ → ℤ → ℕ → Bool
key a i b j = cond (lt_z b a) true (cond (lt_z a b) false (ltb i j))

key_irrefl : (a : ℤ) (i : ℕ) → key a i a i ≡ true → ⊥
unfolding key
key_irrefl a i h = grind (arith, ints)

key_asym : (a b : ℤ) (i j : ℕ) → key a i b j ≡ true → key b j a i ≡ false
unfolding key
key_asym a b i j h = grind (arith, ints)

key_chain : (a b c : ℤ) (i j k : ℕ) → key a i b j ≡ true → key b j c k ≡ true → key a i c k ≡ true
unfolding key
key_chain a b c i j k h g = grind (arith, ints)

key_total : (a b : ℤ) (i j : ℕ) → (i ≡ j → ⊥) → key a i b j ≡ false → key b j a i ≡ true
unfolding key
key_total a b i j n h = grind (arith, ints)

key_new : (a b : ℤ) (i j : ℕ) → j < i → key a i b j ≡ lt_z b a
unfolding key
key_new a b i j n = grind (arith, ints)

-- what is in a list
module _ {X : Type 0} where
  has_head : (x : X) (xs : List X) → Has (x ∷ xs) x
  has_head x xs = (0, omega arith, λ d. refl)

  has_tail : (y x : X) (xs : List X) → Has xs x → Has (y ∷ xs) x
  has_tail y x xs h = (suc h.0, omega (arith, h.1), h.2)

  has_cases : (y x : X) (ys : List X) → Has (y ∷ ys) x → (y ≡ x) ⊎ Has ys x
  has_cases y x ys (zero, l, h) = inl (h y)
  has_cases y x ys (suc k, l, h) = inr (k, omega arith, h)

  has_none : (x : X) → Has [] x → ⊥
  has_none x h = omega (arith, h.1)

module _ {V : Type 0} where
  -- each is drawn before all behind it
  abbrev pub Sorted : List (Place V) → Type 0
  Sorted [] = Unit {0}
  Sorted (x ∷ xs) = AllByRecursion (λ y. before x y ≡ true) xs × Sorted xs

  abbrev Other : Place V → Place V → Type 0
  Other p q = q.order ≡ p.order → ⊥

  pub asym_false : (p q : Place V) → before p q ≡ true → before q p ≡ false
  unfolding key
  asym_false p q h = key_asym p.date q.date p.order q.order h

  asym : (p q : Place V) → before p q ≡ true → before q p ≡ true → ⊥
  unfolding key
  asym p q h g = let f = key_asym p.date q.date p.order q.order h in grind arith

  irrefl : (p : Place V) → before p p ≡ true → ⊥
  unfolding key
  irrefl p h = key_irrefl p.date p.order h

  pub chain : (p q r : Place V) → before p q ≡ true → before q r ≡ true → before p r ≡ true
  unfolding key
  chain p q r h g = key_chain p.date q.date r.date p.order q.order r.order h g

  total : (p q : Place V) → Other p q → before p q ≡ false → before q p ≡ true
  unfolding key
  total p q n h = key_total p.date q.date p.order q.order (λ e. n (sym e)) h

  pub tied : (p q : Place V) → before p q ≡ false → before q p ≡ false → (p.date ≡ q.date) × (p.order ≡ q.order)
  unfolding key
  tied p q h g = (grind (arith, ints), grind (arith, ints))

  -- lists in draw order with the same places are the same
  unique : (xs ys : List (Place V)) → Sorted xs → Sorted ys → ((x : Place V) → Has xs x → Has ys x) → ((x : Place V) → Has ys x → Has xs x) → xs ≡ ys
  unique [] [] s t f g = refl
  unique [] (b ∷ ys) s t f g = absurd (has_none b (g b (has_head b ys)))
  unique (a ∷ xs) [] s t f g = absurd (has_none a (f a (has_head a xs)))
  unique (a ∷ xs) (b ∷ ys) s t f g =
      let e : a ≡ b = ⊎_elim sym (λ h. ⊎_elim (λ e'. e') (λ h'. absurd (asym a b (all-has (λ y. before a y ≡ true) xs b s.0 h') (all-has (λ y. before b y ≡ true) ys a t.0 h)))
      (has_cases a b xs (g b (has_head b ys)))) (has_cases b a ys (f a (has_head a xs))) in
      let into : (x : Place V) → Has xs x → Has ys x = λ x h. ⊎_elim (λ e'. absurd (irrefl x (subst (λ z. before z x ≡ true) (e ∙ e') (all-has (λ y. before a y ≡ true) xs x s.0 h)))) (λ h'. h')
      (has_cases b x ys (f x (has_tail a x xs h))) in
      let back : (x : Place V) → Has ys x → Has xs x = λ x h. ⊎_elim (λ e'. absurd (irrefl x (subst (λ z. before z x ≡ true) (sym e ∙ e') (all-has (λ y. before b y ≡ true) ys x t.0 h)))) (λ h'. h')
      (has_cases a x xs (g x (has_tail b x ys h))) in
      λ k. e k ∷ unique xs ys s.1 t.1 into back k

  -- putting in order moves places only
  put_shuffled : (p : Place V) (xs : List (Place V)) → IsPermutation (p ∷ xs) (put p xs)
  put_shuffled p [] = IsPermutation-refl (p ∷ [])
  put_shuffled p (x ∷ xs) = by (put_shuffled p xs) (before p x)
    where
      by : IsPermutation (p ∷ xs) (put p xs) → (b : Bool) → IsPermutation (p ∷ x ∷ xs) (cond b (p ∷ x ∷ xs) (x ∷ put p xs))
      by r true = IsPermutation-refl (p ∷ x ∷ xs)
      by r false = IsPermutation-trans (p ∷ x ∷ xs) (x ∷ p ∷ xs) (x ∷ put p xs)
          (IsPermutation-swap (p ∷ x ∷ xs) (x ∷ p ∷ xs) 0 1 (omega arith) (omega arith) refl)
          (IsPermutation-cons x (p ∷ xs) (put p xs) r)

  pub ordered_shuffled : (xs : List (Place V)) → IsPermutation xs (ordered xs)
  ordered_shuffled [] = IsPermutation-refl []
  ordered_shuffled (x ∷ xs) = IsPermutation-trans (x ∷ xs) (x ∷ ordered xs) (put x (ordered xs)) (IsPermutation-cons x xs (ordered xs) (ordered_shuffled xs)) (put_shuffled x (ordered xs))

  put_sorted : (p : Place V) (xs : List (Place V)) → AllByRecursion (Other p) xs → Sorted xs → Sorted (put p xs)
  put_sorted p [] o s = (tt, tt)
  put_sorted p (x ∷ xs) o s = by (put_sorted p xs o.1 s.1) (before p x) refl
    where
      by : Sorted (put p xs) → (b : Bool) → before p x ≡ b → Sorted (cond b (p ∷ x ∷ xs) (x ∷ put p xs))
      by r true h = ((h, All-weaker (λ y. before x y ≡ true) (λ y. before p y ≡ true) (λ y g. chain p x y h g) xs s.0), s)
      by r false h = (all_shuffled (λ y. before x y ≡ true) (p ∷ xs) (put p xs) (put_shuffled p xs) (total p x o.0 h, s.0), r)

  -- the numbers
  many_cons : (k : ℕ) (p : Place V) (xs : List (Place V)) → many k (p ∷ xs) ≡ cond (eqb p.order k) 1 0 + many k xs
  unfolding many
  many_cons k p xs = sum_by-cons (λ (q : Place V). cond (eqb q.order k) 1 0) p xs

  many_here : (k : ℕ) (p : Place V) (xs : List (Place V)) → p.order ≡ k → many k (p ∷ xs) ≡ 1 + many k xs
  many_here k p xs e = many_cons k p xs ∙ ap (λ b. cond b 1 0 + many k xs) (eq-eqb p.order k e)

  many_tail : (k : ℕ) (p : Place V) (xs : List (Place V)) → many k xs ≤ many k (p ∷ xs)
  many_tail k p xs = omega (arith, many_cons k p xs)

  many_shuffled : (k : ℕ) (xs ys : List (Place V)) → IsPermutation xs ys → many k ys ≡ many k xs
  unfolding many
  many_shuffled k xs ys h = sum_by-IsPermutation (λ (q : Place V). cond (eqb q.order k) 1 0) xs ys h

  none_others : (p : Place V) (xs : List (Place V)) → many p.order xs ≡ 0 → AllByRecursion (Other p) xs
  none_others p [] h = tt
  none_others p (x ∷ xs) h = (λ e. omega (arith, many_here p.order x xs e), none_others p xs (omega (arith, many_tail p.order x xs)))

  apart_head : (p : Place V) (xs : List (Place V)) → Apart (p ∷ xs) → AllByRecursion (Other p) xs
  apart_head p xs a = none_others p xs (omega (arith, a p.order, many_here p.order p xs refl))

  apart_tail : (p : Place V) (xs : List (Place V)) → Apart (p ∷ xs) → Apart xs
  apart_tail p xs a k = omega (arith, a k, many_tail k p xs)

  pub apart_shuffled : (xs ys : List (Place V)) → IsPermutation xs ys → Apart xs → Apart ys
  apart_shuffled xs ys h a k = omega (arith, a k, many_shuffled k xs ys h)

  no_count : (n : ℕ) (xs : List (Place V)) → Below n xs → many n xs ≡ 0
  unfolding many
  no_count n [] b = refl
  no_count n (x ∷ xs) b = let e = no_count n xs b.1 in let c = many_cons n x xs in let l = b.0 in let f : eqb x.order n ≡ false = grind arith in c ∙ ap (λ t. cond t 1 0 + many n xs) f ∙ omega arith

  apart_new : (p : Place V) (xs : List (Place V)) → Apart xs → Below p.order xs → Apart (p ∷ xs)
  apart_new p xs a b k = by (eqb p.order k) refl
    where
      by : (t : Bool) → eqb p.order k ≡ t → many k (p ∷ xs) ≤ 1
      by true e = let q : p.order ≡ k = eqb-true p.order k e in omega (arith, many_here k p xs q, ap (λ m. many m xs) q, no_count p.order xs b)
      by false e = let z = many_cons k p xs ∙ ap (λ t. cond t 1 0 + many k xs) e in omega (arith, a k)

  ordered_sorted : (xs : List (Place V)) → Apart xs → Sorted (ordered xs)
  ordered_sorted [] a = tt
  ordered_sorted (x ∷ xs) a = put_sorted x (ordered xs) (all_shuffled (Other x) xs (ordered xs) (ordered_shuffled xs) (apart_head x xs a)) (ordered_sorted xs (apart_tail x xs a))

  -- the draw order of the same places is the same
  pub ordered_same : (xs ys : List (Place V)) → Apart xs → IsPermutation xs ys → ordered ys ≡ ordered xs
  ordered_same xs ys a h =
      let to = IsPermutation-trans (ordered xs) xs (ordered ys) (IsPermutation-sym xs (ordered xs) (ordered_shuffled xs)) (IsPermutation-trans xs ys (ordered ys) h (ordered_shuffled ys)) in
      let from = IsPermutation-sym (ordered xs) (ordered ys) to in
      unique (ordered ys) (ordered xs) (ordered_sorted ys (apart_shuffled xs ys h a)) (ordered_sorted xs a) (λ x. has_shuffled (ordered ys) (ordered xs) x from) (λ x. has_shuffled (ordered xs) (ordered ys) x to)

  new : (p q : Place V) → q.order < p.order → before p q ≡ lt_z q.date p.date
  unfolding key
  new p q l = key_new p.date q.date p.order q.order l

  -- a place with the highest number goes behind all that are not older
  put_enters : (p : Place V) (xs : List (Place V)) → Below p.order xs → map entry (put p xs) ≡ enter (entry p) (map entry xs)
  put_enters p [] b = refl
  put_enters p (x ∷ xs) b =
      ap (λ t. map entry (cond t (p ∷ x ∷ xs) (x ∷ put p xs))) (new p x b.0) ∙ by (put_enters p xs b.1) (lt_z x.date p.date)
    where
      by : map entry (put p xs) ≡ enter (entry p) (map entry xs) → (t : Bool) → map entry (cond t (p ∷ x ∷ xs) (x ∷ put p xs)) ≡ cond t (entry p ∷ entry x ∷ map entry xs) (entry x ∷ enter (entry p) (map entry xs))
      by r true = refl
      by r false = ap (λ l. entry x ∷ l) r

  -- what waits once p has come to the places xs
  pub entered : (p : Place V) (xs ys : List (Place V)) → Apart xs → Below p.order xs → IsPermutation (p ∷ xs) ys → (waits ys ≡ enter (entry p) (waits xs)) × Apart ys × Below (p.order + 1) ys
  entered p xs ys a b h =
      let more : Apart (p ∷ xs) = apart_new p xs a b in (
        ap (map entry) (ordered_same (p ∷ xs) ys more h) ∙ put_enters p (ordered xs) (all_shuffled (λ q. q.order < p.order) xs (ordered xs) (ordered_shuffled xs) b),
        apart_shuffled (p ∷ xs) ys h more,
        all_shuffled (λ q. q.order < p.order + 1) (p ∷ xs) ys h (omega arith, All-weaker (λ q. q.order < p.order) (λ q. q.order < p.order + 1) (λ q l. omega arith) xs b),
      )

  -- what waits once the first has gone
  pub drawn : (p : Place V) (xs ys : List (Place V)) → Apart xs → IsPermutation xs (p ∷ ys) → AllByRecursion (λ q. before q p ≡ false) xs → (ordered xs ≡ p ∷ ordered ys) × Apart ys
  drawn p xs ys a h top =
      let a' = apart_shuffled xs (p ∷ ys) h a in
      let none = all_shuffled (λ q. before q p ≡ false) xs (p ∷ ys) h top in
      let firsts = first_all ys (apart_head p ys a') none.1 in
      (sym (ordered_same xs (p ∷ ys) a h) ∙ put_first p (ordered ys) (all_shuffled (λ q. before p q ≡ true) ys (ordered ys) (ordered_shuffled ys) firsts), apart_tail p ys a')
    where
      first_all : (l : List (Place V)) → AllByRecursion (Other p) l → AllByRecursion (λ q. before q p ≡ false) l → AllByRecursion (λ q. before p q ≡ true) l
      first_all [] o n = tt
      first_all (x ∷ l) o n = (total x p (λ e. o.0 (sym e)) n.0, first_all l o.1 n.1)

      put_first : (p : Place V) (l : List (Place V)) → AllByRecursion (λ q. before p q ≡ true) l → put p l ≡ p ∷ l
      put_first p [] t = refl
      put_first p (x ∷ l) t = ap (λ b. cond b (p ∷ x ∷ l) (x ∷ put p l)) t.0
