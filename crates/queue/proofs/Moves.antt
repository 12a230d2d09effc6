-- What comes and goes at the ends of a heap.
use Rattle.std.proofs.Common.{◌≡◌, ℕ, ◌+◌, ◌-◌, ◌<◌, Bool, true, false, cond, List, [], ◌∷◌, ◌++◌, length, get_or, take, set, vec_items, sym, refl, ap, ◌∙◌, subst, arith}
use lib.Signed.{lt_z}
use Rattle.queue.specs.declared.entry.Entry.{Entry}
use Rattle.queue.specs.Waiting.{enter, tail}
use Rattle.std.specs.List.Sorted.{IsPermutation}
use Rattle.std.proofs.lemmas.List.Sorted.{IsPermutation-sym, IsPermutation-trans, IsPermutation-cons, IsPermutation-to_front, length_permutation}
use Rattle.std.proofs.lemmas.List.{take_more, take_more_set, get_or-set_other, length-map, length-take-le}
use Rattle.queue.specs.declared.entry.Place.{Place}
use Rattle.queue.specs.declared.queue.Queue.{Queue}
use Rattle.queue.specs.Places.{entry}
use Rattle.queue.specs.Order.{after, ordered, Heaped, Topless}
use Rattle.queue.specs.Queue.{waiting, held}
use Rattle.queue.proofs.Drawn.{ordered_shuffled}
use Rattle.queue.proofs.Ranking.{taken}

module _ {V : Type 0} where
  pub length_enter : (e : Entry V) (xs : List (Entry V)) → length (enter e xs) ≡ length xs + 1
  length_enter e [] = refl
  length_enter e (x ∷ xs) = by (length_enter e xs) (lt_z x.date e.date)
    where
      by : length (enter e xs) ≡ length xs + 1 → (b : Bool) → length (cond b (e ∷ x ∷ xs) (x ∷ enter e xs)) ≡ length (x ∷ xs) + 1
      by r true = omega arith
      by r false = omega arith

  pub length_tail : (xs : List (Entry V)) → length (tail xs) ≡ length xs - 1
  length_tail [] = refl
  length_tail (x ∷ xs) = omega arith

  pub long : (q : Queue V) → length (waiting q) ≡ q.len
  unfolding waiting
  long q = length-map (ordered (held q)) entry ∙ length_permutation (held q) (ordered (held q)) (ordered_shuffled (held q)) ∙ length-take-le q.len (vec_items q.places) (omega (arith, q.within, q.places.ok.0))

  pub heap_set : (xs : List (Place V)) (n : ℕ) (p : Place V) → Heaped xs n → Heaped (set xs n p) n
  unfolding Heaped
  heap_set xs n p h = λ i k d a b c f. (λ z. after (get_or-set_other xs n i p d (omega arith) z) (get_or-set_other xs n k p d (omega arith) z)) ∙ h i k d a b c f

  pub come : (xs zs : List (Place V)) (n : ℕ) (p : Place V) → n < length xs → IsPermutation (take (n + 1) (set xs n p)) zs → IsPermutation (p ∷ take n xs) zs
  come xs zs n p l h = IsPermutation-trans (p ∷ take n xs) (take n xs ++ p ∷ []) zs (IsPermutation-sym (take n xs ++ p ∷ []) (p ∷ take n xs) (IsPermutation-to_front (take n xs) p)) (subst (λ m. IsPermutation m zs) (take_more_set xs n p l) h)

  module _ (xs ys : List (Place V)) (last : ℕ) (p : Place V) (l : last < length xs) (long : length ys ≡ length xs) (is : p ≡ get_or xs 0 p)
      (up : (d : Place V) → get_or ys last d ≡ get_or xs 0 d) (all : (d : Place V) → ys ≡ set (set xs 0 (get_or xs last d)) last (get_or xs 0 d)) where
    pub gone : (zs : List (Place V)) → IsPermutation (take last ys) zs → IsPermutation (take (last + 1) xs) (p ∷ zs)
    gone zs h =
        let e : take (last + 1) ys ≡ take last ys ++ p ∷ [] = take_more ys last p (omega arith) ∙ ap (λ y. take last ys ++ y ∷ []) (up p ∙ sym is) in
        IsPermutation-trans (take (last + 1) xs) (take last ys ++ p ∷ []) (p ∷ zs)
        (subst (λ m. IsPermutation (take (last + 1) xs) m) e (taken xs ys (last + 1) 0 last (omega arith) (omega arith) (omega arith) all))
        (IsPermutation-trans (take last ys ++ p ∷ []) (p ∷ take last ys) (p ∷ zs) (IsPermutation-to_front (take last ys) p) (IsPermutation-cons p (take last ys) zs h))

  pub topless : (xs ys : List (Place V)) (last : ℕ) → ((k : ℕ) (d : Place V) → (k ≡ 0 → ⊥) → (k ≡ last → ⊥) → get_or ys k d ≡ get_or xs k d) → Heaped xs (last + 1) → Topless ys last
  unfolding Heaped Topless
  topless xs ys last other h = λ i k d a b c f. (λ z. after (other i d (omega arith) (omega arith) z) (other k d (omega arith) (omega arith) z)) ∙ h i k d (omega arith) b c (omega arith)
