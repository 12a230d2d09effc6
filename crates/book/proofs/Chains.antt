-- The chains of the index.
use Rattle.std.proofs.Common.{◌≡◌, ℕ, zero, suc, ◌+◌, ◌-◌, ◌<◌, ◌≤◌, true, false, cond, eqb, ◌≢◌, List, [], ◌∷◌, length, get_or, take, set, Some, None, sym, refl, ap, ◌∙◌, ⊎_elim, add-one, arith}
use Rattle.std.proofs.lemmas.Slice.Eq.{bytes_eq-Decides}
use Rattle.std.proofs.lemmas.Bool.{cases_eq, cases_Bool, cond-true, cond-false, cond_both, cases_lt, eqb-true, eqb-false, eq-eqb, ne_eqb}
use Rattle.std.proofs.lemmas.List.{get_or-set_same, get_or-set_other, get_or-take, length-take-le}
use Rattle.source.specs.declared.ObjectId.{ObjectId}
use Rattle.source.specs.Ids.{place, is_same_id}
use Rattle.book.specs.Rows.{no_id}
use Rattle.book.specs.Index.{hash, last, Chain, Heads, Apart}

abbrev mk_id : List ℕ → ObjectId
mk_id bs = record { bytes = bs }

pub same_is : (a b : ObjectId) → is_same_id a b ≡ true → a ≡ b
same_is a b e = ap (λ (bs : List ℕ). mk_id bs) ((bytes_eq-Decides a.bytes b.bytes).0 e)

other_hash : (a b : ObjectId) (m : ℕ) → (hash a m ≡ hash b m → ⊥) → is_same_id a b ≡ false
other_hash a b m h = ⊎_elim (λ (t : is_same_id a b ≡ true). absurd (h (ap (λ (x : ObjectId). hash x m) (same_is a b t)))) (λ (f : is_same_id a b ≡ false). f) (cases_Bool (is_same_id a b))

module _ (xs : List ObjectId) (m h : ℕ) where
  pub last_le : (n : ℕ) → last xs m h n ≤ n
  last_le zero = omega arith
  last_le (suc n) = cond_both (eqb (hash (get_or xs n no_id) m) h) (suc n) (last xs m h n) (λ x. x ≤ suc n) (λ _. omega arith) (λ _. omega (arith, last_le n))

  pub last_hit : (n : ℕ) → 0 < last xs m h n → hash (get_or xs (last xs m h n - 1) no_id) m ≡ h
  last_hit zero = λ l. absurd (omega arith)
  last_hit (suc n) = cond_both (eqb (hash (get_or xs n no_id) m) h) (suc n) (last xs m h n) (λ x. 0 < x → hash (get_or xs (x - 1) no_id) m ≡ h) (λ t _. let e : suc n - 1 ≡ n = omega arith in rw e (eqb-true (hash (get_or xs n no_id) m) h t)) (λ _. last_hit n)

  pub last_none : (n j : ℕ) → last xs m h n ≤ j → j < n → hash (get_or xs j no_id) m ≡ h → ⊥
  last_none zero j = λ l u e. omega arith
  last_none (suc n) j =
      cond_both (eqb (hash (get_or xs n no_id) m) h) (suc n) (last xs m h n) (λ x. x ≤ j → j < suc n → hash (get_or xs j no_id) m ≡ h → ⊥)
      (λ t l u e. omega arith)
      (λ t l u e. ⊎_elim (λ (q : j ≡ n). eqb-false (hash (get_or xs n no_id) m) h t (ap (λ (k : ℕ). hash (get_or xs k no_id) m) (sym q) ∙ e)) (λ (q : j ≢ n). last_none n j l (omega arith) e) (cases_eq j n))

pub last_same : (xs ys : List ObjectId) (m h n : ℕ) → ((j : ℕ) → j < n → get_or xs j no_id ≡ get_or ys j no_id) → last xs m h n ≡ last ys m h n
last_same xs ys m h zero e = refl
last_same xs ys m h (suc n) e =
    ap (λ (x : ObjectId). cond (eqb (hash x m) h) (suc n) (last xs m h n)) (e n (omega arith))
    ∙ ap (λ (r : ℕ). cond (eqb (hash (get_or ys n no_id) m) h) (suc n) r) (last_same xs ys m h n (λ j l. e j (omega arith)))

-- where a walk down a chain stands, that has passed all but the first `n` rows
pub walk : (ids : List ObjectId) (m used n at : ℕ) (i : ObjectId) → at ≡ last ids m (hash i m) n → n ≤ used → ((j : ℕ) → n ≤ j → j < used → is_same_id (get_or ids j no_id) i ≡ false) → (at ≤ used) × (0 < at → hash (get_or ids (at - 1) no_id) m ≡ hash i m) × ((j : ℕ) → at ≤ j → j < used → is_same_id (get_or ids j no_id) i ≡ false)
walk ids m used n at i e u past = (
  omega (arith, last_le ids m (hash i m) n),
  rw e (last_hit ids m (hash i m) n),
  λ j l k. ⊎_elim (λ (q : j < n). other_hash (get_or ids j no_id) i m (last_none ids m (hash i m) n j (omega arith) q)) (λ (q : n ≤ j). past j q k) (cases_lt j n),
)

pub place_hit : (i : ObjectId) (xs : List ObjectId) (k n : ℕ) → k < length xs → is_same_id (get_or xs k no_id) i ≡ true → ((j : ℕ) → j < k → is_same_id (get_or xs j no_id) i ≡ false) → place i xs n ≡ Some (n + k)
place_hit i [] k n l t before = absurd (omega arith)
place_hit i (x ∷ xs) zero n l t before = cond-true (is_same_id x i) _ _ t ∙ ap (λ (a : ℕ). Some a) (omega arith)
place_hit i (x ∷ xs) (suc k) n l t before = cond-false (is_same_id x i) _ _ (before 0 (omega arith)) ∙ (place_hit i xs k (n + 1) (omega arith) t (λ j b. before (suc j) (omega arith)) ∙ ap (λ (a : ℕ). Some a) (omega arith))

pub place_miss : (i : ObjectId) (xs : List ObjectId) (n : ℕ) → ((j : ℕ) → j < length xs → is_same_id (get_or xs j no_id) i ≡ false) → place i xs n ≡ None
place_miss i [] n none = refl
place_miss i (x ∷ xs) n none = cond-false (is_same_id x i) _ _ (none 0 (omega arith)) ∙ place_miss i xs (n + 1) (λ j b. none (suc j) (omega arith))

here_or_on : (i x : ObjectId) (xs : List ObjectId) (n : ℕ) → is_same_id x i ≡ false → ((j : ℕ) → j < length xs → is_same_id (get_or xs j no_id) i ≡ false) → (j : ℕ) → j < length (x ∷ xs) → is_same_id (get_or (x ∷ xs) j no_id) i ≡ false
here_or_on i x xs n f on zero l = f
here_or_on i x xs n f on (suc j) l = on j (omega arith)

pub place_all : (i : ObjectId) (xs : List ObjectId) (n : ℕ) → None ≡ place i xs n → (j : ℕ) → j < length xs → is_same_id (get_or xs j no_id) i ≡ false
place_all i [] n e j l = absurd (omega arith)
place_all i (x ∷ xs) n e j l =
    ⊎_elim
    (λ (t : is_same_id x i ≡ true). let s : place i (x ∷ xs) n ≡ Some n = cond-true (is_same_id x i) (Some n) (place i xs (n + 1)) t in let z : ◌≡◌ {A = ℕ} 0 1 = cc in absurd (omega arith))
    (λ (f : is_same_id x i ≡ false). here_or_on i x xs n f (place_all i xs (n + 1) (e ∙ cond-false (is_same_id x i) (Some n) (place i xs (n + 1)) f)) j l)
    (cases_Bool (is_same_id x i))

-- the row at `k` is the one
pub found_at : (i : ObjectId) (ids : List ObjectId) (used k : ℕ) → used ≤ length ids → k < used → Apart ids used → is_same_id (get_or ids k no_id) i ≡ true → Some k ≡ place i (take used ids) 0
found_at i ids used k h l apart t =
    let n : k < length (take used ids) = omega (arith, length-take-le used ids h) in
    let e : get_or ids k no_id ≡ i = same_is (get_or ids k no_id) i t in
    sym (place_hit i (take used ids) k 0 n (rw get_or-take t) (λ j b. let u : j < used = omega arith in ap (λ (x : ObjectId). is_same_id x i) (get_or-take used ids j no_id u) ∙ (ap (λ (x : ObjectId). is_same_id (get_or ids j no_id) x) (sym e) ∙ apart j k (b, l))) ∙ ap (λ (a : ℕ). Some a) (omega arith))

pub found_none : (i : ObjectId) (ids : List ObjectId) (used : ℕ) → used ≤ length ids → ((j : ℕ) → j < used → is_same_id (get_or ids j no_id) i ≡ false) → None ≡ place i (take used ids) 0
found_none i ids used h none =
    sym (place_miss i (take used ids) 0 (λ j b. let u : j < used = omega (arith, length-take-le used ids h) in ap (λ (x : ObjectId). is_same_id x i) (get_or-take used ids j no_id u) ∙ none j u))

-- one more row
module _ (ids : List ObjectId) (heads nexts : List ℕ) (m used : ℕ) (i : ObjectId) (long : used < length ids) where
  below : (j : ℕ) → j < used → get_or (set ids used i) j no_id ≡ get_or ids j no_id
  below j l = get_or-set_other ids used j i no_id (omega arith)

  here : get_or (set ids used i) used no_id ≡ i
  here = get_or-set_same ids used i no_id long

  last_old : (h n : ℕ) → n ≤ used → last (set ids used i) m h n ≡ last ids m h n
  last_old h n l = last_same (set ids used i) ids m h n (λ j b. below j (omega arith))

  pub chain_push : used < length nexts → hash i m < m → Chain ids nexts m used → Heads ids heads m used → Chain (set ids used i) (set nexts used (get_or heads (hash i m) 0)) m (used + 1)
  chain_push ln lh chain hd k l =
      ⊎_elim
      (λ (q : k ≡ used). rw q (get_or-set_same nexts used (get_or heads (hash i m) 0) 0 ln ∙ (hd (hash i m) lh ∙ (sym (last_old (hash i m) used (omega arith)) ∙ ap (λ (x : ObjectId). last (set ids used i) m (hash x m) used) (sym here)))))
      (λ (q : k ≢ used). let u : k < used = omega arith in get_or-set_other nexts used k (get_or heads (hash i m) 0) 0 q ∙ (chain k u ∙ (sym (last_old (hash (get_or ids k no_id) m) k (omega arith)) ∙ ap (λ (x : ObjectId). last (set ids used i) m (hash x m) k) (sym (below k u)))))
      (cases_eq k used)

  pub heads_push : m ≤ length heads → hash i m < m → Heads ids heads m used → Heads (set ids used i) (set heads (hash i m) (used + 1)) m (used + 1)
  heads_push lm lh hd g l =
      let step : cond (eqb (hash i m) g) (suc used) (last ids m g used) ≡ last (set ids used i) m g (used + 1) = rw add-one (ap (λ (x : ObjectId). cond (eqb (hash x m) g) (suc used) (last ids m g used)) (sym here) ∙ ap (λ (r : ℕ). cond (eqb (hash (get_or (set ids used i) used no_id) m) g) (suc used) r) (sym (last_old g used (omega arith)))) in
      ⊎_elim
      (λ (q : g ≡ hash i m). ap (λ (x : ℕ). get_or (set heads (hash i m) (used + 1)) x 0) q ∙ (get_or-set_same heads (hash i m) (used + 1) 0 (omega arith) ∙ (add-one used ∙ (sym (cond-true (eqb (hash i m) g) (suc used) (last ids m g used) (eq-eqb (hash i m) g (sym q))) ∙ step))))
      (λ (q : g ≢ hash i m). get_or-set_other heads (hash i m) g (used + 1) 0 q ∙ (hd g l ∙ (sym (cond-false (eqb (hash i m) g) (suc used) (last ids m g used) (ne_eqb (hash i m) g (λ e. q (sym e)))) ∙ step)))
      (cases_eq g (hash i m))

  pub apart_push : None ≡ place i (take used ids) 0 → Apart ids used → Apart (set ids used i) (used + 1)
  apart_push none apart j k lb =
      let l : j < k = lb.0 in
      let b : k < used + 1 = lb.1 in
      let u : j < used = omega arith in
      ap (λ (x : ObjectId). is_same_id x (get_or (set ids used i) k no_id)) (below j u)
      ∙ ⊎_elim
      (λ (q : k ≡ used). ap (λ (n : ℕ). is_same_id (get_or ids j no_id) (get_or (set ids used i) n no_id)) q ∙ (ap (λ (x : ObjectId). is_same_id (get_or ids j no_id) x) here ∙ (ap (λ (x : ObjectId). is_same_id x i) (sym (get_or-take used ids j no_id u)) ∙ place_all i (take used ids) 0 none j (omega (arith, length-take-le used ids (omega arith))))))
      (λ (q : k ≢ used). let v : k < used = omega arith in ap (λ (x : ObjectId). is_same_id (get_or ids j no_id) x) (below k v) ∙ apart j k (l, v))
      (cases_eq k used)
