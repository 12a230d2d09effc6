-- The order of a heap's places is total, as the lemmas on heaps ask.
use Rattle.std.proofs.Common.{◌≡◌, ℕ, zero, suc, ◌+◌, ◌*◌, ◌<◌, ◌≤◌, Bool, true, false, cond, List, [], ◌∷◌, length, get_or, take, set, Ordering, Less, Equal, Greater, sym, refl, ap, ◌∙◌, subst, arith}
use Rattle.std.specs.Cmp.{IsTotalOrder}
use Rattle.std.specs.Ordering.{is_lt, ordering_reverse}
use Rattle.std.specs.List.Sorted.{IsPermutation}
use Rattle.std.specs.Slice.Heapsort.{IsHeapWithin}
use Rattle.std.specs.BinaryHeap.{lt_by_cmp}
use Rattle.std.specs.BinaryHeap.Sift.{ComparesAt, IsGreaterChild, SiftsUp, SiftsDown}
use Rattle.std.specs.BinaryHeap as std
use Rattle.std.specs.List.{AllByRecursion}
use Rattle.std.proofs.ByRecursion.{All-weaker}
use Rattle.std.proofs.HeapSift.{greatest, either_child}
use Rattle.queue.proofs.Drawn.{asym_false, chain, tied}
use Rattle.std.proofs.lemmas.List.Sorted.{IsPermutation-swap}
use Rattle.std.proofs.lemmas.List.Edits.{swap_is}
use Rattle.std.proofs.lemmas.List.{get_or-take, length-take-le}
use Rattle.queue.specs.declared.entry.Place.{Place}
use Rattle.queue.specs.Order.{before, after, rank, Heaped, Topless}

ranked : Bool → Bool → Ordering
ranked l g = cond l Less (cond g Greater Equal)

-- l and g: the second is before the first, and the first before the second
flips : (l g : Bool) → (l ≡ true → g ≡ false) → ranked l g ≡ ordering_reverse (ranked g l)
unfolding ranked
flips true true h = let e : true ≡ false = h refl in ap (λ b. cond b Less Greater) e
flips true false h = refl
flips false true h = refl
flips false false h = refl

less_is : (l g : Bool) → ranked l g ≡ Less → l ≡ true
unfolding ranked
less_is true g h = refl
less_is false true h = ap (λ o. is_lt o) h
less_is false false h = ap (λ o. is_lt o) h

is_less : (l g : Bool) → is_lt (ranked l g) ≡ l
unfolding ranked
is_less true g = refl
is_less false true = refl
is_less false false = refl

equal_is : (l g : Bool) → ranked l g ≡ Equal → (l ≡ false) × (g ≡ false)
unfolding ranked
equal_is true g h = (ap is_lt h, absurd (let z : ◌≡◌ {A = ℕ} 0 1 = cc in omega arith))
equal_is false true h = (refl, absurd (let z : ◌≡◌ {A = ℕ} 0 1 = cc in omega arith))
equal_is false false h = (refl, refl)

take_set_in : {X : Type 0} (n : ℕ) (xs : List X) (i : ℕ) (y : X) → take n (set xs i y) ≡ set (take n xs) i y
take_set_in zero xs i y = refl
take_set_in (suc n) [] i y = refl
take_set_in (suc n) (x ∷ xs) zero y = refl
take_set_in (suc n) (x ∷ xs) (suc i) y = ap (λ l. x ∷ l) (take_set_in n xs i y)

module _ {V : Type 0} where
  same_rank : (p q r : Place V) → (p.date ≡ q.date) × (p.order ≡ q.order) → rank p r ≡ rank q r
  same_rank p q r e = λ k. rank (record { date = e.0 k; order = e.1 k; value = p.value }) r

  pub order : IsTotalOrder (rank {V = V})
  unfolding ranked
  order = record {
    antisymm = λ p q. flips (before q p) (before p q) (asym_false q p);
    trans = λ p q r h g. ap (λ b. cond b Less (cond (before p r) Greater Equal)) (chain r q p (less_is (before r q) (before q r) g) (less_is (before q p) (before p q) h));
    congr = λ p q r h. let e = equal_is (before q p) (before p q) h in same_rank p q r (tied p q e.1 e.0);
  }

  pub below_is : (p q : Place V) → lt_by_cmp rank p q ≡ after p q
  unfolding ranked order
  below_is p q = is_less (before q p) (before p q)

  pub told : (xs : List (Place V)) (a b : ℕ) (r : Bool) → ((d : Place V) → before (get_or xs b d) (get_or xs a d) ≡ r) → ComparesAt rank xs a b r
  unfolding ranked
  told xs a b r h = λ d. is_less (before (get_or xs b d) (get_or xs a d)) (before (get_or xs a d) (get_or xs b d)) ∙ h d

  -- which child is drawn first, by the test of the right one against the left one at c
  pub left_best : (xs : List (Place V)) (j c n : ℕ) → c ≡ j * 2 + 1 → ComparesAt rank xs (c + 1) c true → IsGreaterChild rank xs j c n
  left_best xs j c n e t = let z : c + 0 ≡ c = omega arith in subst (λ (k : ℕ). IsGreaterChild rank xs j k n) z (either_child rank order xs j c n true e t).1

  pub right_best : (xs : List (Place V)) (j c n : ℕ) → c ≡ j * 2 + 1 → ComparesAt rank xs (c + 1) c false → IsGreaterChild rank xs j (c + 1) n
  right_best xs j c n e t = (either_child rank order xs j c n false e t).1

  into : (xs : List (Place V)) (low n : ℕ) → IsHeapWithin after xs low n → IsHeapWithin (lt_by_cmp rank) xs low n
  into xs low n h = λ p k d a b c f. below_is (get_or xs p d) (get_or xs k d) ∙ h p k d a b c f

  out : (xs : List (Place V)) (low n : ℕ) → IsHeapWithin (lt_by_cmp rank) xs low n → IsHeapWithin after xs low n
  out xs low n h = λ p k d a b c f. sym (below_is (get_or xs p d) (get_or xs k d)) ∙ h p k d a b c f

  pub risen : (xs ys : List (Place V)) (j : ℕ) → SiftsUp rank xs j ys → Heaped xs j → Heaped ys (j + 1)
  unfolding SiftsUp Heaped
  risen xs ys j rises h = out ys 0 (j + 1) (rises (j + 1) (omega arith) (
    (λ p k d a b f u v. into xs 0 j h p k d (omega arith) a b (omega arith), λ p k d a b f g i. absurd (omega arith)),
    λ k d a b f. absurd (omega arith),
  ))

  pub sunk : (xs ys : List (Place V)) (n : ℕ) → SiftsDown rank xs 0 n ys → Topless xs n → Heaped ys n
  unfolding SiftsDown Heaped Topless
  sunk xs ys n sinks h = out ys 0 n (sinks.1 (into xs 1 n h))

  -- the first is drawn before all
  pub first_of : (xs : List (Place V)) (n : ℕ) (p : Place V) → 0 < n → n ≤ length xs → p ≡ get_or xs 0 p → Heaped xs n → AllByRecursion (λ q. before q p ≡ false) (take n xs)
  unfolding Heaped std.IsHeap
  first_of xs n p z le is h =
      let ts = take n xs in
      let long : length ts ≡ n = length-take-le n xs le in
      let at : (i : ℕ) (d : Place V) → i < n → get_or ts i d ≡ get_or xs i d = λ i d f. get_or-take n xs i d f in
      let heap : std.IsHeap rank ts = λ p k d a b c f. (λ i. lt_by_cmp rank (at p d (omega arith) i) (at k d (omega arith) i)) ∙ into xs 0 n h p k d a b c (omega arith) in
      All-weaker (λ q. lt_by_cmp rank p q ≡ false) (λ q. before q p ≡ false) (λ q e. sym (below_is p q) ∙ e) ts (greatest order ts p (is ∙ sym (at 0 p z)) heap)

  -- an exchange among the first n
  pub taken : (xs ys : List (Place V)) (n i j : ℕ) → i < n → j < n → n ≤ length xs → ((d : Place V) → ys ≡ set (set xs i (get_or xs j d)) j (get_or xs i d)) → IsPermutation (take n xs) (take n ys)
  taken [] ys n i j p q le is = absurd (omega arith)
  taken (x ∷ xs) ys n i j p q le is =
      let l = x ∷ xs in
      let long : length (take n l) ≡ n = length-take-le n l le in
      let e : take n ys ≡ set (set (take n l) i (get_or (take n l) j x)) j (get_or (take n l) i x) =
      ap (take n) (is x) ∙ take_set_in n (set l i (get_or l j x)) j (get_or l i x) ∙ ap (λ m. set m j (get_or l i x)) (take_set_in n l i (get_or l j x))
      ∙ (λ k. set (set (take n l) i (sym (get_or-take n l j x q) k)) j (sym (get_or-take n l i x p) k)) in
      IsPermutation-swap (take n l) (take n ys) i j (omega arith) (omega arith) (e ∙ swap_is (take n l) i j x (omega arith) (omega arith))
