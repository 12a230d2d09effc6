-- The places of a heap, and the draw order of what stands in them.
use Rattle.std.specs.Prelude.{◌≡◌, ℕ, ◌+◌, ◌*◌, ◌<◌, ◌≤◌, Bool, true, false, cond, List, [], ◌∷◌, map, get_or, sum_by, ◌==◌, int_lt, nat_lt, slice_index_or}
use Rattle.std.specs.declared.cmp.Ordering.TheVariants.{Less, Equal, Greater}
use Rattle.std.specs.declared.cmp.Ordering.{Ordering}
use Rattle.std.specs.Slice.Heapsort.{IsHeapWithin}
use Rattle.std.specs.BinaryHeap.Sift.{IsGreaterChild}
use Rattle.std.specs.List.{AllByRecursion}
use Rattle.queue.specs.declared.entry.Entry.{Entry}
use Rattle.queue.specs.declared.entry.Place.{Place}
use Rattle.queue.specs.Places.{entry}

module _ {V : Type 0} where
  -- p is drawn before q: its date is later, or the same and p entered first
  abbrev pub before : Place V → Place V → Bool
  before p q = cond (int_lt q.date p.date) true (cond (int_lt p.date q.date) false (nat_lt p.order q.order))

  abbrev pub put : Place V → List (Place V) → List (Place V)
  put p [] = p ∷ []
  put p (x ∷ xs) = cond (before p x) (p ∷ x ∷ xs) (x ∷ put p xs)

  -- the places in draw order
  abbrev pub ordered : List (Place V) → List (Place V)
  ordered [] = []
  ordered (x ∷ xs) = put x (ordered xs)

  abbrev pub waits : List (Place V) → List (Entry V)
  waits ps = map entry (ordered ps)

  -- how often the number k stands
  unfoldable pub many : ℕ → List (Place V) → ℕ
  many k ps = sum_by (λ (p : Place V). cond (p.order == k) 1 0) ps

  -- no number stands twice
  abbrev pub Apart : List (Place V) → Type 0
  Apart ps = (k : ℕ) → many k ps ≤ 1

  -- each number is below n
  abbrev pub Below : ℕ → List (Place V) → Type 0
  Below n ps = AllByRecursion (λ p. p.order < n) ps

  -- of the first `len`
  abbrev pub Numbered : ℕ → List (Place V) → ℕ → Type 0
  Numbered n ps len = (k : ℕ) (d : Place V) → k < len → (get_or ps k d).order < n

  abbrev pub after : Place V → Place V → Bool
  after p q = before q p

  -- among the first n, none is drawn before its parent
  unfoldable pub Heaped : List (Place V) → ℕ → Type 0
  Heaped ps n = IsHeapWithin after ps 0 n

  -- the same, where it is seen through
  abbrev pub Heaps : List (Place V) → ℕ → Type 0
  Heaps ps n = (w : ℕ × ℕ × Place V) → (w.0 * 2 + 1 ≤ w.1) × (w.1 ≤ w.0 * 2 + 2) × (w.1 < n) → after (slice_index_or ps w.0 w.2) (slice_index_or ps w.1 w.2) ≡ false

  -- the same, but for the first
  unfoldable pub Topless : List (Place V) → ℕ → Type 0
  Topless ps n = IsHeapWithin after ps 1 n

  abbrev pub rank : Place V → Place V → Ordering
  rank p q = cond (before q p) Less (cond (before p q) Greater Equal)

  -- no child of j among the first n is drawn before the place c
  unfoldable pub Chief : List (Place V) → ℕ → ℕ → ℕ → Type 0
  Chief ps j c n = IsGreaterChild rank ps j c n
