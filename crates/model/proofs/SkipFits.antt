-- What the skipping code's state keeps at each step, whatever the sources were.
use Rattle.std.proofs.Common.{◌≡◌, ℕ, ◌+◌, ◌<◌, ◌≤◌, true, false, not, ltb, [], ◌∷◌, length, ℤ, sym, refl, ap, ◌∙◌, subst, inl, inr, ⊎_elim, arith}
use Rattle.std.proofs.lemmas.List.Sums.{sum_by-set, count_by-le-length}
use Rattle.std.proofs.lemmas.Bool.{cond_both}
use Rattle.std.specs.declared.option.Option as so
use Rattle.std.specs.declared.option.Option.TheVariants as opt
use Rattle.std.specs.declared.result.Result as std
use Rattle.std.specs.declared.result.Result.TheVariants as res
use Rattle.source.specs.declared.ObjectId.{ObjectId}
use Rattle.source.specs.Meaning.{absent}
use Rattle.book.specs.declared.types.Denial.{Denial}
use Rattle.book.specs.declared.types.Remark.{Remark}
use Rattle.queue.specs.declared.entry.Entry.{Entry}
use Rattle.queue.specs.Waiting.{enter}
use Rattle.model.specs.declared.Step.{Step}
use Rattle.model.specs.Book.{COMMON, join, Row, no_row, reflag, renumber, Waits, Marks, Walk, made, row, flags_at, drawn, stop, Source, place}
use Rattle.model.specs.Steps.{found, Lookup, held, adds, taken, noted}
use Rattle.model.specs.Skipping.{queued, shared, falls, relieved, at_row, alone, new_original, new_ttl, numbered}
use Rattle.model.specs.Steady.{bit, Ext, loose, Low, SkipFit, SkipHeld, opens, has_seen, has_common, seen_rows, common_rows}
use Rattle.model.specs.View.{unpack}
use Rattle.model.specs.SkipParts.{Adds}
use Rattle.model.proofs.Basics.{length_enter, in_enter}
use Rattle.model.proofs.Good.{change_ext, put_ext, ext_refl, begun_good}
use Rattle.model.proofs.Runs.{stop_ext, drawn_ext}
use Rattle.model.proofs.Fits.{Bounds, lookup_ext}
use Rattle.model.proofs.Looks.{Looks}
use Rattle.model.proofs.Low.{pending_enter, shared_opens, shared_pending, seen_bit, falls_bit, opens_rows, pending_same, relieved_ext, add_low, stop_low, enter_low, common_low, draw_low, note_low, take_low}
use Rattle.model.proofs.SkipRuns.{Plain, plain_seen, plain_advertised}

-- the steps of the state's own world
abbrev AllBelow : ℕ → Type 0
AllBelow k = Unit {0}

-- the bounds that a state gives
pub bounds : (s : Walk) → Low loose [] s → Bounds s
unfolding seen_rows common_rows
bounds s H = record {
  seen_le = count_by-le-length has_seen s.rows;
  common_le = count_by-le-length has_common s.rows;
  count_le = omega (arith, H.high, count_by-le-length has_seen s.rows);
  queue_le = H.good.short;
  rows_le = H.good.room;
}

module _ (s : Walk) (n p m : ℕ) (F : SkipFit s n p m) where
  pub low : opens s ≤ s.count
  low = omega (arith, F.steady.low)

  pub commons_le : common_rows s ≤ m
  commons_le = let b = bounds s F.steady in omega (arith, b.common_le, b.rows_le, F.marked)

  pub commons_most : common_rows s ≤ 65535
  commons_most = let b = bounds s F.steady in omega (arith, b.common_le, b.rows_le, F.most)

  pub commons_rows : common_rows s ≤ s.most_rows
  commons_rows = let b = bounds s F.steady in omega (arith, b.common_le, b.rows_le)

  pub seens_rows : seen_rows s ≤ s.most_rows
  seens_rows = let b = bounds s F.steady in omega (arith, b.seen_le, b.rows_le)

  pub rows_marks : length s.rows ≤ m
  rows_marks = let b = bounds s F.steady in omega (arith, b.rows_le, F.marked)

-- a step that keeps the numbers
pub fit_went : (s t : Walk) (n n' p m : ℕ) → SkipFit s n p m → Low loose [] t → Ext s t → n' ≤ n → SkipFit t n' p m
fit_went s t n n' p m F H x l = record { steady = H; counted = omega (arith, l, F.counted, x.seens); placed = omega (arith, F.placed, x.most); marked = omega (arith, F.marked, x.most); most = omega (arith, F.most, x.most) }

pub begun_fit : (n l p m : ℕ) → n ≤ p → n ≤ m → n ≤ 65535 → SkipFit (made n l) 0 p m
unfolding opens seen_rows
begun_fit n l p m a b c = record { steady = record { good = begun_good loose n l; low = omega arith; high = omega arith }; counted = omega arith; placed = a; marked = b; most = c }

-- a lookup
pub look_low : (src : Source) (s : Walk) (i : ObjectId) (k : ℕ) (t : Walk) → Low loose [] s → Lookup src s i (found k t) → Low loose [] t
look_low src s i k t H (held _ e) = H
look_low src s i k t H (adds d ps e c l m) = add_low (λ j. absent) AllBelow ⊥ [] s i d ps H e (λ x. absurd x) l

pub stop_fit : (s : Walk) (n p m : ℕ) → SkipFit s n p m → SkipFit (stop s) n p m
stop_fit s n p m F = fit_went s (stop s) n n p m F (stop_low (λ j. absent) AllBelow ⊥ [] s F.steady) (stop_ext s) (omega arith)

pub looks_fit : (src : Source) (s : Walk) (i : ObjectId) (t : Walk) (a : std.Result (so.Option ℕ) Denial) (n p m : ℕ) → Looks src s i t a → SkipFit s n p m → SkipFit t n p m
looks_fit src s i t (res.Ok (opt.Some k)) n p m l F = fit_went s t n n p m F (look_low src s i k t F.steady l) (lookup_ext src s i k t l).0 (omega arith)
looks_fit src s i t (res.Ok opt.None) n p m l F = subst (λ (x : Walk). SkipFit x n p m) (sym l.1) F
looks_fit src s i t (res.Err d) n p m l F = subst (λ (x : Walk). SkipFit x n p m) (sym l.1) (stop_fit s n p m F)

-- a push: what it needs, and what it keeps
pub plain_of : (mask : ℕ) → Adds mask → Plain (unpack mask)
plain_of mask (inl e) = subst (λ (x : ℕ). Plain (unpack x)) (sym e) plain_seen
plain_of mask (inr e) = subst (λ (x : ℕ). Plain (unpack x)) (sym e) plain_advertised

pub record Queued (s : Walk) (k mask n p m : ℕ) : Type 0 where
  pub space : length s.queue < p
  pub number : n + 1 ≤ 65535
  pub count : s.count + 1 ≤ 65535
  pub fit : (n' : ℕ) → n' ≤ n + 1 → SkipFit (queued (unpack mask) s k) n' p m

pub queue_fit : (s : Walk) (k mask n p m : ℕ) → SkipFit s n p m → k < length s.rows → Adds mask → (flags_at s k).seen ≡ false → Queued s k mask n p m
queue_fit s k mask n p m F l ad un =
    let M = unpack mask in
    let f = flags_at s k in
    let pl = plain_of mask ad in
    let t = queued M s k in
    let a = enter_low (λ j. absent) AllBelow ⊥ s k (join M f) F.steady l un (pl.seen f) (pl.popped f) (λ h. pl.common f ∙ h) in
    let b = bounds t a.0 in
    let x = a.1 in
    let longer = length_enter {V = ℕ} (record { date = (row s k).date; value = k }) s.queue in
    let up : seen_rows s + 1 ≤ seen_rows t = omega (arith, x.pays, longer) in
    record {
      space = omega (arith, b.queue_le, longer, b.seen_le, b.rows_le, x.most, F.placed);
      number = omega (arith, up, F.counted, b.seen_le, b.rows_le, x.most, F.most);
      count = omega (arith, b.count_le, b.rows_le, x.most, F.most);
      fit = λ n' h. record { steady = a.0; counted = omega (arith, h, up, F.counted); placed = omega (arith, F.placed, x.most); marked = omega (arith, F.marked, x.most); most = omega (arith, F.most, x.most) };
    }

pub queued_ext : (s : Walk) (k mask : ℕ) → k < length s.rows → Adds mask → (flags_at s k).seen ≡ false → Ext s (queued (unpack mask) s k)
queued_ext s k mask l ad un =
    let f = flags_at s k in
    let pl = plain_of mask ad in
    change_ext s k (join (unpack mask) f) (place s.rows k s.queue) (s.count + 1) l (λ h. pl.seen f) (λ h. pl.common f ∙ h) (λ h. pl.popped f ∙ h)
    (omega (arith, ap bit un, ap bit (pl.seen f), length_enter {V = ℕ} (record { date = (row s k).date; value = k }) s.queue))

-- COMMON
pub shared_ext : (s : Walk) (k : ℕ) → k < length s.rows → Ext s (shared s k)
shared_ext s k l = change_ext s k (join COMMON (flags_at s k)) s.queue s.count l (λ h. h) (λ h. refl) (λ h. h) (omega arith)

pub shared_up : (s : Walk) (k : ℕ) → k < length s.rows → (flags_at s k).common ≡ false → common_rows (shared s k) ≡ common_rows s + 1
unfolding common_rows
shared_up s k l un = omega (arith, ap bit un, sum_by-set (λ (r : Row). bit (has_common r)) s.rows k (reflag (row s k) (join COMMON (flags_at s k))) no_row l)

pub share_fit : (s : Walk) (k n p m : ℕ) → SkipFit s n p m → k < length s.rows → (flags_at s k).common ≡ false → SkipFit (shared s k) n p m
share_fit s k n p m F l un = fit_went s (shared s k) n n p m F (common_low (λ j. absent) AllBelow ⊥ [] [] s k F.steady l un (omega arith)).0 (shared_ext s k l) (omega arith)

-- the marking queue, as a row gains COMMON: one without SEEN, one with, and the first
pub held_share : (s : Walk) (k : ℕ) (q : Marks) (n : ℕ) → SkipHeld s q n → k < length s.rows → (flags_at s k).common ≡ false → SkipHeld (shared s k) q n
held_share s k q n H l un =
    let x = shared_ext s k l in
    record {
      inside = λ e i. omega (arith, H.inside e i, x.longer);
      brief = omega (arith, H.brief, x.commons);
      counted = omega (arith, H.counted, x.commons);
      low = omega (arith, H.low, shared_opens s k l un, shared_pending s k q l);
    }

pub held_gains : (s : Walk) (k n n' : ℕ) (d : ℤ) (q : Marks) → SkipHeld s q n → k < length s.rows → (flags_at s k).common ≡ false → (flags_at s k).seen ≡ true → n' ≤ n + 1
    → SkipHeld (shared s k) (enter (record { date = d; value = at_row k }) q) n'
held_gains s k n n' d q H l un se h =
    let e₀ : Entry Step = record { date = d; value = at_row k } in
    let x = shared_ext s k l in
    let up = shared_up s k l un in
    record {
      inside = λ e i. ⊎_elim (λ z. subst (λ (w : Entry Step). w.value.row < length (shared s k).rows) (sym z) (omega (arith, l, x.longer))) (λ z. omega (arith, H.inside e z, x.longer)) (in_enter e₀ e q i);
      brief = omega (arith, H.brief, up, length_enter e₀ q);
      counted = omega (arith, H.counted, up, h);
      low = omega (arith, H.low, shared_opens s k l un, shared_pending s k (enter e₀ q) l, pending_enter s e₀ q, seen_bit (flags_at s k).seen (not (flags_at s k).popped) se);
    }

pub held_alone : (s : Walk) (k n : ℕ) → opens s ≤ s.count → k < length s.rows → (flags_at s k).common ≡ false → (flags_at s k).seen ≡ true → n ≤ 1 → SkipHeld (shared s k) (alone s k) n
held_alone s k n lo l un se h =
    let x = shared_ext s k l in
    let up = shared_up s k l un in
    record {
      inside = λ e i. ⊎_elim (λ z. subst (λ (w : Entry Step). w.value.row < length (shared s k).rows) (sym z) (omega (arith, l, x.longer))) (λ z. absurd z) i;
      brief = omega (arith, up);
      counted = omega (arith, up, h);
      low = omega (arith, lo, shared_opens s k l un, shared_pending s k (alone s k) l, seen_bit (flags_at s k).seen (not (flags_at s k).popped) se);
    }

-- a draw from it: the count has room to fall
pub held_room : (s : Walk) (e : Entry Step) (q : Marks) (n : ℕ) → SkipHeld s (e ∷ q) n → falls (flags_at s e.value.row) ≤ s.count
held_room s e q n H = omega (arith, H.low, falls_bit (flags_at s e.value.row).popped)

pub held_drawn : (s : Walk) (e : Entry Step) (q : Marks) (n : ℕ) → SkipHeld s (e ∷ q) n → SkipHeld (relieved s e.value.row) q n
held_drawn s e q n H =
    let k = e.value.row in
    let x = relieved_ext s k in
    record {
      inside = λ y i. H.inside y (inr i);
      brief = omega (arith, H.brief, x.commons);
      counted = omega (arith, H.counted, x.commons);
      low = omega (arith, H.low, falls_bit (flags_at s k).popped, opens_rows s (relieved s k) refl, pending_same s (relieved s k) q (λ j. refl));
    }

pub relieve_fit : (s : Walk) (e : Entry Step) (q : Marks) (n n' p m : ℕ) → SkipFit s n p m → SkipHeld s (e ∷ q) n' → SkipFit (relieved s e.value.row) n p m
relieve_fit s e q n n' p m F H =
    let k = e.value.row in
    let a = draw_low (λ j. absent) AllBelow ⊥ e q s (record { good = F.steady.good; low = H.low; high = F.steady.high }) in
    fit_went s (relieved s k) n n p m F (record { good = a.good; low = omega (arith, a.low); high = a.high }) (relieved_ext s k) (omega arith)

-- skip numbers
pub numbered_ext : (s : Walk) (k o t : ℕ) → k < length s.rows → Ext s (numbered o t s k)
numbered_ext s k o t l = cond_both (ltb (row s k).original (new_original o t)) _ _ (λ u. Ext s u)
    (λ e. put_ext s k (renumber (row s k) (new_original o t) (new_ttl o t)) s.queue s.count l (record { id = refl; date = refl; parents = refl }) (λ h. h) (λ h. h) (λ h. h) (omega arith))
    (λ e. ext_refl s)

-- a draw
pub drawn_inside : (s : Walk) (n p m : ℕ) (x : Entry ℕ) (q : Waits) → SkipFit s n p m → s.queue ≡ x ∷ q → x.value < length s.rows
drawn_inside s n p m x q F e = (take_low (λ j. absent) AllBelow ⊥ s x q F.steady e).range

pub spent_fit : (s : Walk) (n p m : ℕ) (x : Entry ℕ) (q : Waits) → SkipFit s n p m → s.queue ≡ x ∷ q → s.count ≡ 0 → SkipFit (drawn s q) n p m
spent_fit s n p m x q F e z = fit_went s (drawn s q) n n p m F ((take_low (λ j. absent) AllBelow ⊥ s x q F.steady e).left z) (drawn_ext s x q e) (omega arith)

pub taken_fit : (s : Walk) (n p m : ℕ) (x : Entry ℕ) (q : Waits) → SkipFit s n p m → s.queue ≡ x ∷ q → SkipFit (taken s x.value q) n p m
taken_fit s n p m x q F e = let d = take_low (λ j. absent) AllBelow ⊥ s x q F.steady e in fit_went s (taken s x.value q) n n p m F (d.now tt) d.ext (omega arith)

-- a note
pub note_fit : (src : Source) (b : Remark) (i : ObjectId) (s t : Walk) (k n p m : ℕ) → Looks src s i t (res.Ok (opt.Some k)) → SkipFit s n p m → SkipFit (noted b t k) n p m
note_fit src b i s t k n p m l F =
    let G = looks_fit src s i t (res.Ok (opt.Some k)) n p m l F in
    let a = note_low (λ j. absent) AllBelow ⊥ b t k G.steady (lookup_ext src s i k t l).1 in
    fit_went t (noted b t k) n n p m G a.0 a.1 (omega arith)
