-- What the code's state keeps at each step, whatever the sources were.
use Rattle.std.proofs.Common.{◌≡◌, ℕ, suc, ◌+◌, ◌-◌, ◌<◌, ◌≤◌, Bool, true, false, cond, not, ◌&&◌, ◌||◌, [], ◌∷◌, length, ℤ, sym, refl, ap, ◌∙◌, subst, inl, inr, ⊎_elim, arith, length-set}
use Rattle.std.proofs.lemmas.List.Sums.{sum_by-set, get_or-le-sum_by, count_by-le-length}
use Rattle.std.proofs.lemmas.Bool.{cond-false, true≢false, cond_both}
use Rattle.source.specs.declared.ObjectId.{ObjectId}
use Rattle.queue.specs.declared.entry.Entry.{Entry}
use Rattle.queue.specs.Waiting.{enter}
use Rattle.model.specs.declared.Step.{Step}
use Rattle.model.specs.Book.{Waits, Marks, Flags, SEEN, COMMON, POPPED, COMMON_REF_AND_SEEN, COMMON_AND_SEEN, join, meets, Row, no_row, reflag, Walk, row, flags_at, drawn, stop, Source, place}
use Rattle.model.specs.Steps.{found, Lookup, held, adds, taken}
use Rattle.model.specs.Consecutive.{entered, waits, commoned}
use Rattle.model.specs.Steady.{bit, open_flags, is_open, Good, Ext, free, Fit, Held, has_seen, has_common, seen_rows, common_rows}
use Rattle.model.specs.View.{unpack, Admits}
use Rattle.model.proofs.Basics.{find_some, length_enter, in_enter}
use Rattle.model.proofs.Good.{change_ext, none_open, ext_refl, add_good, add_ext, add_length}
use Rattle.model.proofs.Ops.{entered_seen, entered_ref, entered_both, commoned_good, taken_good}
use Rattle.model.proofs.Runs.{stop_good, stop_ext, drawn_ext}
use Rattle.model.proofs.Masks.{or_seen, or_ref, or_both}
use Rattle.model.proofs.Looks.{Law, Looks}
use Rattle.book.specs.declared.types.Denial.{Denial}
use Rattle.std.specs.declared.option.Option as so
use Rattle.std.specs.declared.option.Option.TheVariants as opt
use Rattle.std.specs.declared.result.Result as std
use Rattle.std.specs.declared.result.Result.TheVariants as res

pub mask_law : (mask : ℕ) (g : Flags) → Admits mask g → (f : ℕ) → f < 256 → Law mask (unpack mask) f
mask_law mask g (inl e) f l = subst (λ (x : ℕ). Law x (unpack x) f) (sym e) (or_seen f)
mask_law mask g (inr (inl e, u)) f l = subst (λ (x : ℕ). Law x (unpack x) f) (sym e) (or_ref f)
mask_law mask g (inr (inr e, u)) f l = subst (λ (x : ℕ). Law x (unpack x) f) (sym e) (or_both f)

abbrev pub Went : Walk → Walk → Type 0
Went s t = Good free t × Ext s t

pub admit_good : (s : Walk) (k mask : ℕ) → Good free s → k < length s.rows → Admits mask (flags_at s k) → Went s (entered (unpack mask) s k)
admit_good s k mask G l (inl e) = subst (λ (x : ℕ). Went s (entered (unpack x) s k)) (sym e) (let a = entered_seen free s k G l in (a.0, a.1))
admit_good s k mask G l (inr (inl e, u)) = subst (λ (x : ℕ). Went s (entered (unpack x) s k)) (sym e) (let a = entered_ref free s k G l u tt in (a.0, a.1))
admit_good s k mask G l (inr (inr e, u)) = subst (λ (x : ℕ). Went s (entered (unpack x) s k)) (sym e) (let a = entered_both free s k G l u tt in (a.0, a.1))

-- the bounds that a state gives
pub record Bounds (s : Walk) : Type 0 where
  pub seen_le : seen_rows s ≤ length s.rows
  pub common_le : common_rows s ≤ length s.rows
  pub count_le : s.count ≤ length s.rows
  pub queue_le : length s.queue ≤ seen_rows s
  pub rows_le : length s.rows ≤ s.most_rows

pub bounds : (s : Walk) → Good free s → Bounds s
unfolding seen_rows common_rows
bounds s G = record { seen_le = count_by-le-length has_seen s.rows; common_le = count_by-le-length has_common s.rows; count_le = omega (arith, G.tally tt, count_by-le-length is_open s.rows); queue_le = G.short; rows_le = G.room }

-- a step that keeps the numbers
pub fit_went : (s t : Walk) (n n' p m : ℕ) → Fit s n p m → Went s t → n' ≤ n → Fit t n' p m
fit_went s t n n' p m F w l = record { good = w.0; counted = omega (arith, l, F.counted, w.1.seens); placed = omega (arith, F.placed, w.1.most); marked = omega (arith, F.marked, w.1.most); most = omega (arith, F.most, w.1.most) }

pub lookup_went : (src : Source) (s : Walk) (i : ObjectId) (k : ℕ) (t : Walk) → Good free s → Lookup src s i (found k t) → Went s t × (k < length t.rows)
lookup_went src s i k t G (held _ e) = ((G, ext_refl s), (find_some i s.rows k e).0)
lookup_went src s i k t G (adds d ps e c l m) = ((add_good free s i d ps G e (λ x. absurd x) l, add_ext s i d ps), omega (arith, add_length s i d ps))

pub stop_went : (s : Walk) → Good free s → Went s (stop s)
stop_went s G = (stop_good free s G, stop_ext s)

-- a push: what it needs, and what it keeps
pub record Admitted (s : Walk) (k mask n p m : ℕ) : Type 0 where
  pub space : length s.queue < p
  pub number : n + 1 ≤ 65535
  pub count : (entered (unpack mask) s k).count ≤ 65535
  pub fit : (n' : ℕ) → n' ≤ n + 1 → Fit (entered (unpack mask) s k) n' p m

pub admit_fit : (s : Walk) (k mask n p m : ℕ) → Fit s n p m → k < length s.rows → Admits mask (flags_at s k) → meets (unpack mask) (flags_at s k) ≡ false → Admitted s k mask n p m
admit_fit s k mask n p m F l a no-bit =
    let t = entered (unpack mask) s k in
    let w = admit_good s k mask F.good l a in
    let b = bounds t w.0 in
    let x = w.1 in
    let longer : length t.queue ≡ suc (length s.queue) = ap (λ (u : Walk). length u.queue) (cond-false _ _ _ no-bit) ∙ length_enter {V = ℕ} (record { date = (row s k).date; value = k }) s.queue in
    let up : seen_rows s + 1 ≤ seen_rows t = omega (arith, x.pays, longer) in
    record {
      space = omega (arith, b.queue_le, longer, b.seen_le, b.rows_le, x.most, F.placed);
      number = omega (arith, up, F.counted, b.seen_le, b.rows_le, x.most, F.most);
      count = omega (arith, b.count_le, b.rows_le, x.most, F.most);
      fit = λ n' h. record { good = w.0; counted = omega (arith, h, up, F.counted); placed = omega (arith, F.placed, x.most); marked = omega (arith, F.marked, x.most); most = omega (arith, F.most, x.most) };
    }

pub admit_quiet : (s : Walk) (k mask n p m : ℕ) → Fit s n p m → k < length s.rows → Admits mask (flags_at s k) → Fit (entered (unpack mask) s k) n p m
admit_quiet s k mask n p m F l a = fit_went s (entered (unpack mask) s k) n n p m F (admit_good s k mask F.good l a) (omega arith)

-- COMMON
pub record Commoned (s : Walk) (k n p m : ℕ) : Type 0 where
  pub low : cond (waits (flags_at s k)) 1 0 ≤ s.count
  pub fit : Fit (commoned s k) n p m
  pub ext : Ext s (commoned s k)
  pub up : common_rows (commoned s k) ≡ common_rows s + 1

was_open : (f : Flags) → f.common ≡ false → bit (open_flags f) ≡ cond (waits f) 1 0
was_open f h = go f.seen f.popped f.common h
  where
    go : (a b c : Bool) → c ≡ false → bit (a && (not b && not c)) ≡ cond (a && not b) 1 0
    go true true c h = refl
    go true false true h = absurd (true≢false h)
    go true false false h = refl
    go false b c h = refl

pub common_fit : (s : Walk) (k n p m : ℕ) → Fit s n p m → k < length s.rows → (flags_at s k).common ≡ false → Commoned s k n p m
unfolding common_rows
common_fit s k n p m F l un =
    let G = F.good in
    let a = commoned_good free s k G l un tt in
    record {
      low = omega (arith, was_open (flags_at s k) un, G.tally tt, get_or-le-sum_by (λ (r : Row). bit (is_open r)) s.rows k no_row l);
      fit = fit_went s (commoned s k) n n p m F (a.0, a.1) (omega arith);
      ext = a.1;
      up = omega (arith, ap bit un, sum_by-set (λ (r : Row). bit (has_common r)) s.rows k (reflag (row s k) (join COMMON (flags_at s k))) no_row l);
    }

-- the marking queue
pub held_ext : (s t : Walk) (q : Marks) (n r : ℕ) → Held s q n r → Ext s t → Held t q n r
held_ext s t q n r H x = record { inside = λ e i. omega (arith, H.inside e i, x.longer); young = λ e i. omega (arith, H.young e i, x.commons); brief = omega (arith, H.brief, x.commons); counted = omega (arith, H.counted, x.commons) }

pub held_drawn : (s : Walk) (e : Entry Step) (q : Marks) (n : ℕ) → Held s (e ∷ q) n 1 → Held s q n 0
held_drawn s e q n H = record { inside = λ x i. H.inside x (inr i); young = λ x i. H.young x (inr i); brief = omega (arith, H.brief); counted = H.counted }

pub held_more : (s : Walk) (q : Marks) (n : ℕ) → Held s q n 0 → Held s q n 1
held_more s q n H = record { inside = H.inside; young = H.young; brief = omega (arith, H.brief); counted = H.counted }

pub held_alone : (s : Walk) (k n : ℕ) (d : ℤ) → k < length s.rows → n ≤ 1 → Held s (record { date = d; value = record { row = k; generation = 0 } } ∷ []) n 1
held_alone s k n d l h = record {
  inside = λ e i. ⊎_elim (λ x. subst (λ (y : Entry Step). y.value.row < length s.rows) (sym x) l) (λ x. absurd x) i;
  young = λ e i. ⊎_elim (λ x. subst (λ (y : Entry Step). y.value.generation ≤ common_rows s) (sym x) (omega arith)) (λ x. absurd x) i;
  brief = omega arith;
  counted = omega (arith, h);
}

pub held_gains : (s : Walk) (k g n n' : ℕ) (d : ℤ) (q : Marks) → Held s q n 0 → k < length s.rows → g ≤ common_rows s → Ext s (commoned s k) → common_rows (commoned s k) ≡ common_rows s + 1 → n' ≤ n + 1
    → Held (commoned s k) (enter (record { date = d; value = record { row = k; generation = g + 1 } }) q) n' 0
held_gains s k g n n' d q H l y x up h =
    let e₀ : Entry Step = record { date = d; value = record { row = k; generation = g + 1 } } in
    let H' = held_ext s (commoned s k) q n 0 H x in
    record {
      inside = λ e i. ⊎_elim (λ z. subst (λ (w : Entry Step). w.value.row < length (commoned s k).rows) (sym z) (omega (arith, l, x.longer))) (λ z. H'.inside e z) (in_enter e₀ e q i);
      young = λ e i. ⊎_elim (λ z. subst (λ (w : Entry Step). w.value.generation ≤ common_rows (commoned s k)) (sym z) (omega (arith, y, up))) (λ z. H'.young e z) (in_enter e₀ e q i);
      brief = omega (arith, H.brief, up, length_enter e₀ q);
      counted = omega (arith, H.counted, up, h);
    }

-- how the rows grow at each step, whatever the state
pub lookup_ext : (src : Source) (s : Walk) (i : ObjectId) (k : ℕ) (t : Walk) → Lookup src s i (found k t) → Ext s t × (k < length t.rows)
lookup_ext src s i k t (held _ e) = (ext_refl s, (find_some i s.rows k e).0)
lookup_ext src s i k t (adds d ps e c l m) = (add_ext s i d ps, omega (arith, add_length s i d ps))

pub looks_ext : (src : Source) (s : Walk) (i : ObjectId) (t : Walk) (a : std.Result (so.Option ℕ) Denial) → Looks src s i t a → Ext s t
looks_ext src s i t (res.Ok (opt.Some k)) l = (lookup_ext src s i k t l).0
looks_ext src s i t (res.Ok opt.None) l = subst (λ (x : Walk). Ext s x) (sym l.1) (ext_refl s)
looks_ext src s i t (res.Err d) l = subst (λ (x : Walk). Ext s x) (sym l.1) (stop_ext s)

pub looks_fit : (src : Source) (s : Walk) (i : ObjectId) (t : Walk) (a : std.Result (so.Option ℕ) Denial) (n p m : ℕ) → Looks src s i t a → Fit s n p m → Fit t n p m
looks_fit src s i t (res.Ok (opt.Some k)) n p m l F = fit_went s t n n p m F (lookup_went src s i k t F.good l).0 (omega arith)
looks_fit src s i t (res.Ok opt.None) n p m l F = subst (λ (x : Walk). Fit x n p m) (sym l.1) F
looks_fit src s i t (res.Err d) n p m l F = subst (λ (x : Walk). Fit x n p m) (sym l.1) (fit_went s (stop s) n n p m F (stop_went s F.good) (omega arith))

pub common_ext : (s : Walk) (k : ℕ) → k < length s.rows → Ext s (commoned s k)
common_ext s k l = change_ext s k (join COMMON (flags_at s k)) s.queue (s.count - cond (waits (flags_at s k)) 1 0) l (λ h. h) (λ h. refl) (λ h. h) (omega arith)

pub common_up : (s : Walk) (k : ℕ) → k < length s.rows → (flags_at s k).common ≡ false → common_rows (commoned s k) ≡ common_rows s + 1
unfolding common_rows
common_up s k l un = omega (arith, ap bit un, sum_by-set (λ (r : Row). bit (has_common r)) s.rows k (reflag (row s k) (join COMMON (flags_at s k))) no_row l)

meets_seen : (f : Flags) → f.seen ≡ false → meets SEEN f ≡ false
meets_seen f h = go f.seen h
  where
    go : (b : Bool) → b ≡ false → (b || false) ≡ false
    go true h = absurd (true≢false h)
    go false h = refl

pub seen_ext : (s : Walk) (k : ℕ) → k < length s.rows → (flags_at s k).seen ≡ false → Ext s (entered SEEN s k)
seen_ext s k l un = subst (λ (t : Walk). Ext s t) (sym (cond-false _ _ _ (meets_seen (flags_at s k) un)))
    (change_ext s k (join SEEN (flags_at s k)) (place s.rows k s.queue) (s.count + cond (join SEEN (flags_at s k)).common 0 1) l (λ h. refl) (λ h. h) (λ h. h)
    (omega (arith, ap bit un, length_enter {V = ℕ} (record { date = (row s k).date; value = k }) s.queue)))

pub commons_le : (s : Walk) (n p m : ℕ) → Fit s n p m → common_rows s ≤ m
commons_le s n p m F = let b = bounds s F.good in omega (arith, b.common_le, b.rows_le, F.marked)

pub commons_most : (s : Walk) (n p m : ℕ) → Fit s n p m → common_rows s ≤ 65535
commons_most s n p m F = let b = bounds s F.good in omega (arith, b.common_le, b.rows_le, F.most)

pub commons_rows : (s : Walk) (n p m : ℕ) → Fit s n p m → common_rows s ≤ s.most_rows
commons_rows s n p m F = let b = bounds s F.good in omega (arith, b.common_le, b.rows_le)

pub seens_rows : (s : Walk) (n p m : ℕ) → Fit s n p m → seen_rows s ≤ s.most_rows
seens_rows s n p m F = let b = bounds s F.good in omega (arith, b.seen_le, b.rows_le)

pub rows_marks : (s : Walk) (n p m : ℕ) → Fit s n p m → length s.rows ≤ m
rows_marks s n p m F = let b = bounds s F.good in omega (arith, b.rows_le, F.marked)

-- a push of any of the masks
push_ext : (s : Walk) (k : ℕ) (M : Flags) → k < length s.rows → (join M (flags_at s k)).seen ≡ true
    → ((flags_at s k).common ≡ true → (join M (flags_at s k)).common ≡ true) → ((flags_at s k).popped ≡ true → (join M (flags_at s k)).popped ≡ true)
    → (meets M (flags_at s k) ≡ false → (flags_at s k).seen ≡ false) → Ext s (entered M s k)
push_ext s k M l se co po un = cond_both (meets M (flags_at s k)) _ _ (λ t. Ext s t)
    (λ e. change_ext s k (join M (flags_at s k)) s.queue s.count l (λ h. se) co po (omega (arith, ap bit se, bit_one (flags_at s k).seen)))
    (λ e. change_ext s k (join M (flags_at s k)) (place s.rows k s.queue) (s.count + cond (join M (flags_at s k)).common 0 1) l (λ h. se) co po
    (omega (arith, ap bit se, ap bit (un e), length_enter {V = ℕ} (record { date = (row s k).date; value = k }) s.queue)))
  where
    bit_one : (b : Bool) → bit b ≤ 1
    bit_one true = omega arith
    bit_one false = omega arith

pub admit_ext : (s : Walk) (k mask : ℕ) → k < length s.rows → Admits mask (flags_at s k) → Ext s (entered (unpack mask) s k)
admit_ext s k mask l (inl e) = subst (λ (x : ℕ). Ext s (entered (unpack x) s k)) (sym e) (push_ext s k SEEN l refl (λ h. h) (λ h. h) (go (flags_at s k).seen))
  where
    go : (b : Bool) → (b || false) ≡ false → b ≡ false
    go true h = absurd (true≢false h)
    go false h = refl
admit_ext s k mask l (inr (inl e, u)) = subst (λ (x : ℕ). Ext s (entered (unpack x) s k)) (sym e) (push_ext s k COMMON_REF_AND_SEEN l refl (λ h. h) (λ h. h) (λ h. u))
admit_ext s k mask l (inr (inr e, u)) = subst (λ (x : ℕ). Ext s (entered (unpack x) s k)) (sym e) (push_ext s k COMMON_AND_SEEN l refl (λ h. refl) (λ h. h) (λ h. u))

-- a draw
pub drawn_inside : (s : Walk) (n p m : ℕ) (x : Entry ℕ) (q : Waits) → Fit s n p m → s.queue ≡ x ∷ q → x.value < length s.rows
drawn_inside s n p m x q F e = (taken_good free s x q F.good e).range

pub spent_fit : (s : Walk) (n p m : ℕ) (x : Entry ℕ) (q : Waits) → Fit s n p m → s.queue ≡ x ∷ q → s.count ≡ 0 → Fit (drawn s q) n p m
spent_fit s n p m x q F e z = fit_went s (drawn s q) n n p m F ((let d = taken_good free s x q F.good e in d.left (none_open s x.value (omega (arith, z, F.good.tally tt)) d.seen)), drawn_ext s x q e) (omega arith)

pub taken_fit : (s : Walk) (n p m : ℕ) (x : Entry ℕ) (q : Waits) → Fit s n p m → s.queue ≡ x ∷ q → Fit (taken s x.value q) n p m
taken_fit s n p m x q F e = let d = taken_good free s x q F.good e in fit_went s (taken s x.value q) n n p m F (d.good (inr tt) tt, d.ext) (omega arith)

pub taken_ext : (s : Walk) (k : ℕ) (x : Entry ℕ) (q : Waits) → k < length s.rows → s.queue ≡ x ∷ q → Ext s (taken s k q)
taken_ext s k x q l e = change_ext s k (join POPPED (flags_at s k)) q (s.count - cond (flags_at s k).common 0 1) l (λ h. h) (λ h. h) (λ h. refl) (omega (arith, ap {A = Waits} {B = ℕ} (λ y. length y) e))

pub taken_long : (s : Walk) (k : ℕ) (q : Waits) → length (taken s k q).rows ≡ length s.rows
taken_long s k q = length-set s.rows k (reflag (row s k) (join POPPED (flags_at s k)))
