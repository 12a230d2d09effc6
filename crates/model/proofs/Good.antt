-- What each step keeps: the tally, the queue, and why a row has its flags.
use Rattle.std.proofs.Common.{◌≡◌, ℕ, zero, suc, ◌+◌, ◌-◌, ◌<◌, ◌≤◌, Bool, true, false, ◌≢◌, ◌⊎◌, List, [], ◌∷◌, length, get_or, ℤ, count_by, sym, refl, ap, ◌∙◌, subst, ⊎_elim, arith, length-append, length-set, get_or-set_other, get_or-set_same}
use mathlib.Core.Option.{none}
use Rattle.std.proofs.lemmas.List.Sums.{sum_by-set, sum_by_push, get_or-le-sum_by}
use Rattle.std.proofs.lemmas.Bool.{cases_eq, cases_lt, both_ways, false≢true}
use Rattle.std.proofs.lemmas.List.{get_or_append_left, get_or_past, get_or-append_right, get_or_push}
use Rattle.source.specs.declared.ObjectId.{ObjectId}
use Rattle.source.specs.Meaning.{commit}
use Rattle.model.specs.Book.{Waits, Flags, no_flags, Row, no_row, reflag, Walk, made, row, flags_at, put, change, fresh_row, add_row, find}
use Rattle.model.specs.Steady.{occ, bit, open_flags, is_open, Fine, World, Good, Ext, has_seen, has_common, seen_rows, common_rows}
use Rattle.model.proofs.Basics.{find_none}

pub ext_refl : (s : Walk) → Ext s s
ext_refl s = record { longer = omega arith; same_parents = λ k h. refl; seens = omega arith; same_id = λ k h. refl; seen_stays = λ k h. h; common_stays = λ k h. h; popped_stays = λ k h. h; pays = omega arith; commons = omega arith; most = refl }

pub ext_trans : (s t u : Walk) → Ext s t → Ext t u → Ext s u
ext_trans s t u a b = record {
  longer = omega (arith, a.longer, b.longer);
  same_parents = λ k h. (b.same_parents k (omega (arith, a.longer))) ∙ (a.same_parents k h);
  seens = omega (arith, a.seens, b.seens);
  same_id = λ k h. (b.same_id k (omega (arith, a.longer))) ∙ (a.same_id k h);
  seen_stays = λ k h. b.seen_stays k (a.seen_stays k h);
  common_stays = λ k h. b.common_stays k (a.common_stays k h);
  popped_stays = λ k h. b.popped_stays k (a.popped_stays k h);
  pays = omega (arith, a.pays, b.pays);
  commons = omega (arith, a.commons, b.commons);
  most = b.most ∙ a.most;
}

-- a row number with a flag set is in range
pub seen_in : (s : Walk) (k : ℕ) → (flags_at s k).seen ≡ true → k < length s.rows
seen_in s k h = ⊎_elim (λ l. l) (λ g. absurd (both_ways (flags_at s k).seen (ap (λ (r : Row). r.flags.seen) (get_or_past s.rows k no_row g)) h)) (cases_lt k (length s.rows))

pub common_in : (s : Walk) (k : ℕ) → (flags_at s k).common ≡ true → k < length s.rows
common_in s k h = ⊎_elim (λ l. l) (λ g. absurd (both_ways (flags_at s k).common (ap (λ (r : Row). r.flags.common) (get_or_past s.rows k no_row g)) h)) (cases_lt k (length s.rows))

-- the row at j after a change at k
pub put_same : (s : Walk) (k : ℕ) (r : Row) (q : Waits) (c : ℕ) → k < length s.rows → row (put s k r q c) k ≡ r
put_same s k r q c h = get_or-set_same s.rows k r no_row h

pub put_other : (s : Walk) (j k : ℕ) (r : Row) (q : Waits) (c : ℕ) → j ≢ k → row (put s k r q c) j ≡ row s j
put_other s j k r q c ne = get_or-set_other s.rows k j r no_row ne

pub row_same : (s : Walk) (k : ℕ) (f : Flags) (q : Waits) (c : ℕ) → k < length s.rows → row (change s k f q c) k ≡ reflag (row s k) f
row_same s k f q c h = put_same s k (reflag (row s k) f) q c h

pub date_kept : (s : Walk) (k : ℕ) (f : Flags) (q : Waits) (c : ℕ) → k < length s.rows → (row (change s k f q c) k).date ≡ (row s k).date
date_kept s k f q c l = ap (λ (r : Row). r.date) (row_same s k f q c l)

-- what holds of every row and its number after a change at k, if it holds of the changed one, and of the others as they were
pub each_put : (s : Walk) (k : ℕ) (r : Row) (q : Waits) (c : ℕ) (P : ℕ → Row → Type 0) → k < length s.rows
    → P k r → ((j : ℕ) → j ≢ k → P j (row s j)) → (j : ℕ) → P j (row (put s k r q c) j)
each_put s k r q c P h here others j = ⊎_elim
    (λ e. subst (λ (m : ℕ). P m (row (put s k r q c) m)) (sym e) (subst (P k) (sym (put_same s k r q c h)) here))
    (λ ne. subst (P j) (sym (put_other s j k r q c ne)) (others j ne)) (cases_eq j k)

-- the same commit
pub record Same (r t : Row) : Type 0 where
  pub id : t.id ≡ r.id
  pub date : t.date ≡ r.date
  pub parents : t.parents ≡ r.parents

-- a change at k keeps all that is good, by what it does at k
pub put_good : (W : World) (s : Walk) (k : ℕ) (r : Row) (q : Waits) (c : ℕ) → Good W s → k < length s.rows → Same (row s k) r
    → (W.Exact → c + bit (open_flags (flags_at s k)) ≡ s.count + bit (open_flags r.flags))
    → ((j : ℕ) → j ≢ k → occ j q ≡ occ j s.queue)
    → Fine r.flags (occ k q)
    → length q + bit (flags_at s k).seen ≤ length s.queue + bit r.flags.seen
    → (r.flags.common ≡ true → W.Cov (row s k).id)
    → (r.flags.cref ≡ true → W.Ref (row s k).id)
    → (r.flags.popped ≡ true → (r.flags.common ≡ true) ⊎ W.Ans k)
    → (r.flags.popped ≡ true → W.Pop k)
    → Good W (put s k r q c)
unfolding seen_rows
put_good W s k r q c G h sa t oc fi pay co re an pp = record {
  tally = λ x. omega (arith, G.tally x, t x, sum_by-set (λ (y : Row). bit (is_open y)) s.rows k r no_row h);
  pop = each_put s k r q c (λ j y. y.flags.popped ≡ true → W.Pop j) h pp (λ j ne. G.pop j);
  fine = each_put s k r q c (λ j y. Fine y.flags (occ j q)) h fi (λ j ne. subst (Fine (flags_at s j)) (sym (oc j ne)) (G.fine j));
  cov = each_put s k r q c (λ j y. y.flags.common ≡ true → W.Cov y.id) h (λ e. subst W.Cov (sym sa.id) (co e)) (λ j ne. G.cov j);
  ref = each_put s k r q c (λ j y. y.flags.cref ≡ true → W.Ref y.id) h (λ e. subst W.Ref (sym sa.id) (re e)) (λ j ne. G.ref j);
  ans = each_put s k r q c (λ j y. y.flags.popped ≡ true → (y.flags.common ≡ true) ⊎ W.Ans j) h an (λ j ne. G.ans j);
  from = λ R j l. each_put s k r q c (λ i y. i < length s.rows → W.src y.id ≡ commit y.date y.parents) h (from_k R) (λ i ne. G.from R i) j (in_old l);
  uniq = λ i j li lj. each_put s k r q c (λ m y. m < length s.rows → y.id ≡ (row (put s k r q c) j).id → m ≡ j) h (λ l e. other j lj k l (sym sa.id ∙ e)) (λ m ne. other j lj m) i (in_old li);
  room = omega (arith, G.room, length-set s.rows k r);
  short = omega (arith, G.short, pay, sum_by-set (λ (y : Row). bit (has_seen y)) s.rows k r no_row h);
}
  where
    from_k : W.Real → k < length s.rows → W.src r.id ≡ commit r.date r.parents
    from_k R l = ap W.src sa.id ∙ G.from R k l ∙ ap (λ (d : ℤ). commit d (row s k).parents) (sym sa.date) ∙ ap (λ (ps : List ObjectId). commit r.date ps) (sym sa.parents)

    in_old : {j : ℕ} → j < length (put s k r q c).rows → j < length s.rows
    in_old {j} l = subst (λ (n : ℕ). j < n) (length-set s.rows k r) l

    other : (j : ℕ) → j < length (put s k r q c).rows → (m : ℕ) → m < length s.rows → (row s m).id ≡ (row (put s k r q c) j).id → m ≡ j
    other j lj m lm = each_put s k r q c (λ i y. i < length s.rows → (row s m).id ≡ y.id → m ≡ i) h (λ l e. G.uniq m k lm l (e ∙ sa.id)) (λ i ne l e. G.uniq m i lm l e) j (in_old lj)

pub same_flags : (r : Row) (f : Flags) → Same r (reflag r f)
same_flags r f = record { id = refl; date = refl; parents = refl }

-- the same, where only the row's flags change
pub change_good : (W : World) (s : Walk) (k : ℕ) (f : Flags) (q : Waits) (c : ℕ) → Good W s → k < length s.rows
    → (W.Exact → c + bit (open_flags (flags_at s k)) ≡ s.count + bit (open_flags f))
    → ((j : ℕ) → j ≢ k → occ j q ≡ occ j s.queue)
    → Fine f (occ k q)
    → length q + bit (flags_at s k).seen ≤ length s.queue + bit f.seen
    → (f.common ≡ true → W.Cov (row s k).id)
    → (f.cref ≡ true → W.Ref (row s k).id)
    → (f.popped ≡ true → (f.common ≡ true) ⊎ W.Ans k)
    → (f.popped ≡ true → W.Pop k)
    → Good W (change s k f q c)
change_good W s k f q c G h = put_good W s k (reflag (row s k) f) q c G h (same_flags (row s k) f)

pub bit_le : (a b : Bool) → (a ≡ true → b ≡ true) → bit a ≤ bit b
bit_le true true h = omega arith
bit_le true false h = absurd (false≢true (h refl))
bit_le false b h = omega arith

pub put_ext : (s : Walk) (k : ℕ) (r : Row) (q : Waits) (c : ℕ) → k < length s.rows → Same (row s k) r
    → ((flags_at s k).seen ≡ true → r.flags.seen ≡ true)
    → ((flags_at s k).common ≡ true → r.flags.common ≡ true)
    → ((flags_at s k).popped ≡ true → r.flags.popped ≡ true)
    → length q + bit (flags_at s k).seen ≤ length s.queue + bit r.flags.seen
    → Ext s (put s k r q c)
unfolding seen_rows common_rows
put_ext s k r q c h sa se co po pay = record {
  longer = omega (arith, length-set s.rows k r);
  same_parents = λ j l. each_put s k r q c (λ i y. y.parents ≡ (row s i).parents) h sa.parents (λ i ne. refl) j;
  seens = omega (arith, bit_le (flags_at s k).seen r.flags.seen se, sum_by-set (λ (y : Row). bit (has_seen y)) s.rows k r no_row h);
  same_id = λ j l. each_put s k r q c (λ i y. y.id ≡ (row s i).id) h sa.id (λ i ne. refl) j;
  seen_stays = each_put s k r q c (λ j y. (flags_at s j).seen ≡ true → y.flags.seen ≡ true) h se (λ j ne g. g);
  common_stays = each_put s k r q c (λ j y. (flags_at s j).common ≡ true → y.flags.common ≡ true) h co (λ j ne g. g);
  popped_stays = each_put s k r q c (λ j y. (flags_at s j).popped ≡ true → y.flags.popped ≡ true) h po (λ j ne g. g);
  pays = omega (arith, pay, sum_by-set (λ (y : Row). bit (has_seen y)) s.rows k r no_row h);
  commons = omega (arith, bit_le (flags_at s k).common r.flags.common co, sum_by-set (λ (y : Row). bit (has_common y)) s.rows k r no_row h);
  most = refl;
}

pub change_ext : (s : Walk) (k : ℕ) (f : Flags) (q : Waits) (c : ℕ) → k < length s.rows
    → ((flags_at s k).seen ≡ true → f.seen ≡ true)
    → ((flags_at s k).common ≡ true → f.common ≡ true)
    → ((flags_at s k).popped ≡ true → f.popped ≡ true)
    → length q + bit (flags_at s k).seen ≤ length s.queue + bit f.seen
    → Ext s (change s k f q c)
change_ext s k f q c h = put_ext s k (reflag (row s k) f) q c h (same_flags (row s k) f)

-- the flags of every row after a row is added are what they were
pub add_flags : (s : Walk) (i : ObjectId) (d : ℤ) (ps : List ObjectId) (k : ℕ) → flags_at (add_row s i d ps) k ≡ flags_at s k
add_flags s i d ps k = ⊎_elim
    (λ l. ap (λ (r : Row). r.flags) (get_or_append_left s.rows (fresh_row i d ps ∷ []) no_row k l))
    (λ g. ap (λ (r : Row). r.flags) (get_or-append_right s.rows (fresh_row i d ps ∷ []) (length s.rows) k no_row refl g) ∙ past (k - length s.rows) ∙ sym (ap (λ (r : Row). r.flags) (get_or_past s.rows k no_row g)))
    (cases_lt k (length s.rows))
  where
    past : (m : ℕ) → (get_or (fresh_row i d ps ∷ []) m no_row).flags ≡ no_flags
    past zero = refl
    past (suc m) = refl

pub add_old : (s : Walk) (i : ObjectId) (d : ℤ) (ps : List ObjectId) (k : ℕ) → k < length s.rows → row (add_row s i d ps) k ≡ row s k
add_old s i d ps k l = get_or_append_left s.rows (fresh_row i d ps ∷ []) no_row k l

pub add_new : (s : Walk) (i : ObjectId) (d : ℤ) (ps : List ObjectId) → row (add_row s i d ps) (length s.rows) ≡ fresh_row i d ps
add_new s i d ps = get_or_push s.rows (fresh_row i d ps) no_row (length s.rows) refl

pub add_length : (s : Walk) (i : ObjectId) (d : ℤ) (ps : List ObjectId) → length (add_row s i d ps).rows ≡ suc (length s.rows)
add_length s i d ps = omega (arith, length-append s.rows (fresh_row i d ps ∷ []))

pub each_added : (s : Walk) (i : ObjectId) (d : ℤ) (ps : List ObjectId) (P : ℕ → Row → Type 0)
    → P (length s.rows) (fresh_row i d ps) → ((j : ℕ) → j < length s.rows → P j (row s j)) → (j : ℕ) → j < length (add_row s i d ps).rows → P j (row (add_row s i d ps) j)
each_added s i d ps P new old j l = ⊎_elim
    (λ b. subst (P j) (sym (add_old s i d ps j b)) (old j b))
    (λ g. let e : j ≡ length s.rows = omega (arith, add_length s i d ps) in
    subst (λ (m : ℕ). P m (row (add_row s i d ps) m)) (sym e) (subst (P (length s.rows)) (sym (add_new s i d ps)) new))
    (cases_lt j (length s.rows))

pub add_good : (W : World) (s : Walk) (i : ObjectId) (d : ℤ) (ps : List ObjectId) → Good W s → find i s.rows ≡ none → (W.Real → W.src i ≡ commit d ps) → length s.rows < s.most_rows → Good W (add_row s i d ps)
unfolding seen_rows
add_good W s i d ps G e c free = record {
  tally = λ x. omega (arith, G.tally x, sum_by_push (λ (r : Row). bit (is_open r)) s.rows (fresh_row i d ps));
  pop = λ k f. G.pop k (ap (λ (g : Flags). g.popped) (sym (add_flags s i d ps k)) ∙ f);
  fine = λ k. subst (λ (f : Flags). Fine f (occ k s.queue)) (sym (add_flags s i d ps k)) (G.fine k);
  cov = λ k f. let f' : (flags_at s k).common ≡ true = ap (λ (g : Flags). g.common) (sym (add_flags s i d ps k)) ∙ f in
      subst (λ (r : Row). W.Cov r.id) (sym (add_old s i d ps k (common_in s k f'))) (G.cov k f');
  ref = λ k f. let f' : (flags_at s k).cref ≡ true = ap (λ (g : Flags). g.cref) (sym (add_flags s i d ps k)) ∙ f in
      subst (λ (r : Row). W.Ref r.id) (sym (add_old s i d ps k (seen_in s k ((G.fine k).ref_seen f')))) (G.ref k f');
  ans = λ k. subst (λ (f : Flags). f.popped ≡ true → (f.common ≡ true) ⊎ W.Ans k) (sym (add_flags s i d ps k)) (G.ans k);
  from = λ R. each_added s i d ps (λ k r. W.src r.id ≡ commit r.date r.parents) (c R) (G.from R);
  uniq = λ j k lj lk. each_added s i d ps (λ m r. r.id ≡ (row (add_row s i d ps) k).id → m ≡ k)
      (each_added s i d ps (λ m r. i ≡ r.id → length s.rows ≡ m) (λ x. refl) (λ m lm x. absurd (find_none i s.rows m e lm (sym x))) k lk)
      (λ m lm. each_added s i d ps (λ n r. (row s m).id ≡ r.id → m ≡ n) (λ x. absurd (find_none i s.rows m e lm x)) (λ n ln x. G.uniq m n lm ln x) k lk)
      j lj;
  room = omega (arith, free, add_length s i d ps);
  short = omega (arith, G.short, sum_by_push (λ (r : Row). bit (has_seen r)) s.rows (fresh_row i d ps));
}

pub add_ext : (s : Walk) (i : ObjectId) (d : ℤ) (ps : List ObjectId) → Ext s (add_row s i d ps)
unfolding seen_rows common_rows
add_ext s i d ps = record {
  longer = omega (arith, add_length s i d ps);
  same_parents = λ k l. ap (λ (r : Row). r.parents) (add_old s i d ps k l);
  seens = omega (arith, sum_by_push (λ (r : Row). bit (has_seen r)) s.rows (fresh_row i d ps));
  same_id = λ k l. ap (λ (r : Row). r.id) (add_old s i d ps k l);
  seen_stays = λ k h. ap (λ (g : Flags). g.seen) (add_flags s i d ps k) ∙ h;
  common_stays = λ k h. ap (λ (g : Flags). g.common) (add_flags s i d ps k) ∙ h;
  popped_stays = λ k h. ap (λ (g : Flags). g.popped) (add_flags s i d ps k) ∙ h;
  pays = omega (arith, sum_by_push (λ (r : Row). bit (has_seen r)) s.rows (fresh_row i d ps));
  commons = omega (arith, sum_by_push (λ (r : Row). bit (has_common r)) s.rows (fresh_row i d ps));
  most = refl;
}

closed_bit : (b : Bool) → bit b ≤ 0 → b ≡ false
closed_bit true h = absurd (omega (arith, h))
closed_bit false h = refl

-- where no row is open, none is
pub none_open : (s : Walk) (k : ℕ) → count_by is_open s.rows ≤ 0 → (flags_at s k).seen ≡ true → open_flags (flags_at s k) ≡ false
none_open s k z se = closed_bit _ (omega (arith, z, get_or-le-sum_by (λ (r : Row). bit (is_open r)) s.rows k no_row (seen_in s k se)))

-- the first walk
pub begun_good : (W : World) (n l : ℕ) → Good W (made n l)
unfolding seen_rows
begun_good W n l = record {
  tally = λ x. refl;
  pop = λ k x. absurd (false≢true x);
  fine = λ k. record { waits1 = λ x. absurd (false≢true x); once = omega arith; queued_seen = λ x. absurd (omega (arith, x)); queued_unpopped = λ x. refl; ref_seen = λ x. x; pop_seen = λ x. x };
  cov = λ k x. absurd (false≢true x);
  ref = λ k x. absurd (false≢true x);
  ans = λ k x. absurd (false≢true x);
  from = λ R k x. absurd (omega (arith, x));
  uniq = λ j k x. absurd (omega (arith, x));
  room = omega arith;
  short = omega arith;
}
