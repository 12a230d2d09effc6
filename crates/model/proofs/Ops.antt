-- The single steps: what each keeps.
use Rattle.std.proofs.Common.{◌≡◌, ℕ, zero, suc, ◌+◌, ◌-◌, ◌<◌, ◌≤◌, Bool, true, false, cond, not, ◌&&◌, ◌||◌, ◌⊎◌, [], ◌∷◌, length, sym, refl, ap, ◌∙◌, subst, inl, inr, ⊎_elim, arith}
use Rattle.std.proofs.lemmas.List.Sums.{get_or-le-sum_by}
use Rattle.std.proofs.lemmas.Bool.{cases_eq, both_ways, true≢false, false≢true, cond_both}
use Rattle.source.specs.declared.ObjectId.{ObjectId}
use Rattle.book.specs.declared.types.Remark.{Remark}
use Rattle.book.specs.declared.types.Remark.TheVariants as remark
use Rattle.source.specs.Meaning.{absent, commit}
use Rattle.queue.specs.declared.entry.Entry.{Entry}
use Rattle.model.specs.Book.{Waits, Flags, SEEN, COMMON, POPPED, COMMON_REF_AND_SEEN, COMMON_AND_SEEN, COMPLETE, ALTERNATE, join, meets, Row, no_row, Walk, row, flags_at, change, drawn, Source, place}
use Rattle.model.specs.Steps.{found, nothing, Lookup, held, lacks, adds, taken, noted}
use Rattle.model.specs.Consecutive.{entered, waits, commoned}
use Rattle.model.specs.Past.{Has}
use Rattle.model.proofs.Basics.{occ_head, occ_skip, occ_enter, occ_enter_other, length_enter, find_some}
use Rattle.model.specs.Steady.{occ, bit, open_flags, is_open, Fine, World, Good, Ext, seen_rows}
use Rattle.model.proofs.Good.{bit_le, ext_refl, seen_in, row_same, change_good, change_ext, add_good, add_ext, add_new, add_length}

-- a lookup that finds a row
pub record Finds (W : World) (s : Walk) (i : ObjectId) (k : ℕ) (t : Walk) : Type 0 where
  pub good : Good W t
  pub ext : Ext s t
  pub range : k < length t.rows
  pub the_id : (row t k).id ≡ i
  pub has : Has W.src i

row_has : (W : World) (R : W.Real) (s : Walk) (i : ObjectId) (k : ℕ) → Good W s → k < length s.rows → (row s k).id ≡ i → Has W.src i
row_has W R s i k G l e = ((row s k).date, (row s k).parents, subst (λ (x : ObjectId). W.src x ≡ commit (row s k).date (row s k).parents) e (G.from R k l))

pub lookup_finds : (W : World) (R : W.Real) (s : Walk) (i : ObjectId) (k : ℕ) (t : Walk) → Good W s → Lookup W.src s i (found k t) → Finds W s i k t
lookup_finds W R s i k t G (held _ e) =
    let w = find_some i s.rows k e in
    record { good = G; ext = ext_refl s; range = w.0; the_id = w.1; has = row_has W R s i k G w.0 w.1 }
lookup_finds W R s i k t G (adds d ps e c l m) =
    record { good = add_good W s i d ps G e (λ x. c) l; ext = add_ext s i d ps; range = omega (arith, add_length s i d ps); the_id = ap (λ (r : Row). r.id) (add_new s i d ps); has = (d, ps, c) }

-- a lookup that finds nothing: the source does not have it
pub lookup_nothing : (src : Source) (s : Walk) (i : ObjectId) → Lookup src s i nothing → src i ≡ absent
lookup_nothing src s i (lacks e c) = c

-- flags that change quietly
pub quiet_good : (W : World) (s : Walk) (k : ℕ) (f : Flags) → Good W s → k < length s.rows
    → open_flags f ≡ open_flags (flags_at s k) → f.popped ≡ (flags_at s k).popped
    → ((flags_at s k).seen ≡ true → f.seen ≡ true) → ((flags_at s k).common ≡ true → f.common ≡ true)
    → (f.cref ≡ true → f.seen ≡ true) → (f.common ≡ true → W.Cov (row s k).id) → (f.cref ≡ true → W.Ref (row s k).id)
    → Good W (change s k f s.queue s.count) × Ext s (change s k f s.queue s.count)
quiet_good W s k f G l op po se co cr cv rf =
    let F = G.fine k in (
      change_good W s k f s.queue s.count G l (λ x. ap (λ (b : Bool). s.count + bit b) (sym op)) (λ j ne. refl)
          (record {
            waits1 = λ h. F.waits1 (sym op ∙ h);
            once = F.once;
            queued_seen = λ h. se (F.queued_seen h);
            queued_unpopped = λ h. po ∙ F.queued_unpopped h;
            ref_seen = cr;
            pop_seen = λ h. se (F.pop_seen (sym po ∙ h));
          })
          (omega (arith, bit_le (flags_at s k).seen f.seen se)) cv rf (λ h. ⊎_elim (λ c. inl (co c)) inr (G.ans k (sym po ∙ h))) (λ h. G.pop k (sym po ∙ h)),
      change_ext s k f s.queue s.count l se co (λ h. po ∙ h) (omega (arith, bit_le (flags_at s k).seen f.seen se)),
    )

-- a note
pub noted_good : (W : World) (b : Remark) (t : Walk) (k : ℕ) → Good W t → k < length t.rows → Good W (noted b t k) × Ext t (noted b t k)
noted_good W remark.Complete t k G l = quiet_good W t k (join COMPLETE (flags_at t k)) G l refl refl (λ x. x) (λ x. x) (G.fine k).ref_seen (G.cov k) (G.ref k)
noted_good W remark.Alternate t k G l = quiet_good W t k (join ALTERNATE (flags_at t k)) G l refl refl (λ x. x) (λ x. x) (G.fine k).ref_seen (G.cov k) (G.ref k)

open_unseen : (f : Flags) → f.seen ≡ false → open_flags f ≡ false
open_unseen f e = rw e refl

open_seen : (f : Flags) → f.seen ≡ true → f.popped ≡ false → bit (open_flags f) ≡ cond f.common 0 1
open_seen f se po = go f.seen f.popped f.common se po
  where
    go : (a b c : Bool) → a ≡ true → b ≡ false → bit (a && (not b && not c)) ≡ cond c 0 1
    go true false true x y = refl
    go true false false x y = refl
    go true true c x y = absurd (true≢false y)
    go false b c x y = absurd (false≢true x)

-- a row enters the queue as it gains SEEN
pub enter_good : (W : World) (s : Walk) (k : ℕ) (f : Flags) (c : ℕ) → (W.Exact → c ≡ s.count + cond f.common 0 1) → Good W s → k < length s.rows
    → (flags_at s k).seen ≡ false → f.seen ≡ true → f.popped ≡ (flags_at s k).popped → ((flags_at s k).common ≡ true → f.common ≡ true)
    → (f.common ≡ true → W.Cov (row s k).id) → (f.cref ≡ true → W.Ref (row s k).id)
    → Good W (change s k f (place s.rows k s.queue) c) × Ext s (change s k f (place s.rows k s.queue) c)
enter_good W s k f c ec G l un se po co cv rf =
    let F = G.fine k in
    let q = place s.rows k s.queue in
    let unpopped : (flags_at s k).popped ≡ false = not_popped (flags_at s k).popped F (λ h. F.pop_seen h) in
    let zero-there : occ k s.queue ≡ 0 = not_there (occ k s.queue) (λ h. F.queued_seen h) in
    let one-there : occ k q ≡ 1 = occ_enter (record { date = (row s k).date; value = k }) s.queue ∙ ap suc zero-there in (
      change_good W s k f q c G l
          (λ x. omega (arith, ec x, open_seen f se (po ∙ unpopped), ap bit (open_unseen (flags_at s k) un)))
          (λ j ne. occ_enter_other j (record { date = (row s k).date; value = k }) s.queue ne)
          (record { waits1 = λ h. one-there; once = omega (arith, one-there); queued_seen = λ h. se; queued_unpopped = λ h. po ∙ unpopped; ref_seen = λ h. se; pop_seen = λ h. se })
          (omega (arith, ap bit un, ap bit se, length_enter {V = ℕ} (record { date = (row s k).date; value = k }) s.queue)) cv rf (λ h. absurd (both_ways f.popped (po ∙ unpopped) h)) (λ h. absurd (both_ways f.popped (po ∙ unpopped) h)),
      change_ext s k f q c l (λ h. se) co (λ h. po ∙ h) (omega (arith, ap bit un, ap bit se, length_enter {V = ℕ} (record { date = (row s k).date; value = k }) s.queue)),
    )
  where
    not_popped : (b : Bool) → Fine (flags_at s k) (occ k s.queue) → (b ≡ true → (flags_at s k).seen ≡ true) → b ≡ false
    not_popped true F h = absurd (both_ways (flags_at s k).seen un (h refl))
    not_popped false F h = refl

    not_there : (n : ℕ) → (0 < n → (flags_at s k).seen ≡ true) → n ≡ 0
    not_there zero h = refl
    not_there (suc n) h = absurd (both_ways (flags_at s k).seen un (h (omega arith)))

-- push with SEEN
pub entered_seen : (W : World) (s : Walk) (k : ℕ) → Good W s → k < length s.rows → Good W (entered SEEN s k) × Ext s (entered SEEN s k) × ((flags_at (entered SEEN s k) k).seen ≡ true)
entered_seen W s k G l = cond_both (meets SEEN (flags_at s k)) _ _ (λ t. Good W t × Ext s t × ((flags_at t k).seen ≡ true))
    (λ e. let g = quiet_good W s k (join SEEN (flags_at s k)) G l (op (flags_at s k) e) refl (λ h. refl) (λ h. h) (λ h. refl) (G.cov k) (G.ref k) in
    (g.0, g.1, ap (λ (r : Row). r.flags.seen) (row_same s k _ [] 0 l)))
    (λ e. let g = enter_good W s k (join SEEN (flags_at s k)) (s.count + cond (join SEEN (flags_at s k)).common 0 1) (λ x. refl) G l (un (flags_at s k).seen e) refl refl (λ h. h) (G.cov k) (G.ref k) in
    (g.0, g.1, ap (λ (r : Row). r.flags.seen) (row_same s k _ [] 0 l)))
  where
    op : (f : Flags) → meets SEEN f ≡ true → open_flags (join SEEN f) ≡ open_flags f
    op f = go f.seen (not f.popped && not f.common)
      where
        go : (a c : Bool) → (a || false) ≡ true → c ≡ (a && c)
        go true c h = refl
        go false c h = absurd (false≢true h)

    un : (a : Bool) → (a || false) ≡ false → a ≡ false
    un true h = h
    un false h = refl

-- push with COMMON_REF and SEEN, of a row without SEEN
pub entered_ref : (W : World) (s : Walk) (k : ℕ) → Good W s → k < length s.rows → (flags_at s k).seen ≡ false → W.Ref (row s k).id
    → Good W (entered COMMON_REF_AND_SEEN s k) × Ext s (entered COMMON_REF_AND_SEEN s k) × ((flags_at (entered COMMON_REF_AND_SEEN s k) k).seen ≡ true)
entered_ref W s k G l un rf = cond_both (meets COMMON_REF_AND_SEEN (flags_at s k)) _ _ (λ t. Good W t × Ext s t × ((flags_at t k).seen ≡ true))
    (λ e. absurd (not_both (flags_at s k).seen (flags_at s k).cref un (G.fine k).ref_seen e))
    (λ e. let g = enter_good W s k (join COMMON_REF_AND_SEEN (flags_at s k)) (s.count + cond (join COMMON_REF_AND_SEEN (flags_at s k)).common 0 1) (λ x. refl) G l un refl refl (λ h. h) (G.cov k) (λ h. rf) in
    (g.0, g.1, ap (λ (r : Row). r.flags.seen) (row_same s k _ [] 0 l)))
  where
    not_both : (a b : Bool) → a ≡ false → (b ≡ true → a ≡ true) → (a || (b || false)) ≡ true → ⊥
    not_both true b x y z = true≢false x
    not_both false true x y z = false≢true (y refl)
    not_both false false x y z = false≢true z

-- push with COMMON and SEEN, of a row without SEEN
pub entered_both : (W : World) (s : Walk) (k : ℕ) → Good W s → k < length s.rows → (flags_at s k).seen ≡ false → W.Cov (row s k).id
    → Good W (entered COMMON_AND_SEEN s k) × Ext s (entered COMMON_AND_SEEN s k) × ((flags_at (entered COMMON_AND_SEEN s k) k).seen ≡ true)
entered_both W s k G l un cv = cond_both (meets COMMON_AND_SEEN (flags_at s k)) _ _ (λ t. Good W t × Ext s t × ((flags_at t k).seen ≡ true))
    (λ e. let g = quiet_good W s k (join COMMON_AND_SEEN (flags_at s k)) G l (op (flags_at s k) un) refl (λ h. refl) (λ h. refl) (λ h. refl) (λ h. cv) (G.ref k) in
    (g.0, g.1, ap (λ (r : Row). r.flags.seen) (row_same s k _ [] 0 l)))
    (λ e. let g = enter_good W s k (join COMMON_AND_SEEN (flags_at s k)) (s.count + cond (join COMMON_AND_SEEN (flags_at s k)).common 0 1) (λ x. refl) G l un refl refl (λ h. refl) (λ h. cv) (G.ref k) in
    (g.0, g.1, ap (λ (r : Row). r.flags.seen) (row_same s k _ [] 0 l)))
  where
    op : (f : Flags) → f.seen ≡ false → open_flags (join COMMON_AND_SEEN f) ≡ open_flags f
    op f e = go f.popped ∙ sym (open_unseen f e)
      where
        go : (b : Bool) → (not b && false) ≡ false
        go true = refl
        go false = refl

-- COMMON
pub commoned_good : (W : World) (s : Walk) (k : ℕ) → Good W s → k < length s.rows → (flags_at s k).common ≡ false → W.Cov (row s k).id
    → Good W (commoned s k) × Ext s (commoned s k) × ((flags_at (commoned s k) k).common ≡ true)
commoned_good W s k G l un cv =
    let F = G.fine k in
    let f = flags_at s k in
    let le : W.Exact → bit (open_flags f) ≤ s.count = λ x. omega (arith, G.tally x, get_or-le-sum_by (λ (r : Row). bit (is_open r)) s.rows k no_row l) in
    let was : bit (open_flags f) ≡ cond (waits f) 1 0 = bits f.seen f.popped f.common un in
    let is : bit (open_flags (join COMMON f)) ≡ 0 = bits' f.seen f.popped in (
      change_good W s k (join COMMON f) s.queue (s.count - cond (waits f) 1 0) G l (λ x. omega (arith, le x, was, is)) (λ j ne. refl)
          (record { waits1 = λ h. absurd (bits'' f.seen f.popped h); once = F.once; queued_seen = F.queued_seen; queued_unpopped = F.queued_unpopped; ref_seen = F.ref_seen; pop_seen = F.pop_seen })
          (omega arith) (λ h. cv) (G.ref k) (λ h. inl refl) (G.pop k),
      change_ext s k (join COMMON f) s.queue (s.count - cond (waits f) 1 0) l (λ h. h) (λ h. refl) (λ h. h) (omega arith),
      ap (λ (r : Row). r.flags.common) (row_same s k _ [] 0 l),
    )
  where
    bits : (a b c : Bool) → c ≡ false → bit (a && (not b && not c)) ≡ cond (a && not b) 1 0
    bits true true c h = refl
    bits true false true h = absurd (true≢false h)
    bits true false false h = refl
    bits false b c h = refl

    bits' : (a b : Bool) → bit (a && (not b && false)) ≡ 0
    bits' true true = refl
    bits' true false = refl
    bits' false b = refl

    bits'' : (a b : Bool) → (a && (not b && false)) ≡ true → ⊥
    bits'' true true h = false≢true h
    bits'' true false h = false≢true h
    bits'' false b h = false≢true h

-- POPPED, of the drawn row
pub record Drawn (W : World) (s : Walk) (k : ℕ) (q : Waits) : Type 0 where
  pub range : k < length s.rows
  pub unpopped : (flags_at s k).popped ≡ false
  pub seen : (flags_at s k).seen ≡ true
  pub good : ((flags_at s k).common ≡ true) ⊎ W.Ans k → W.Pop k → Good W (taken s k q)
  pub ext : Ext s (taken s k q)
  pub left : open_flags (flags_at s k) ≡ false → Good W (drawn s q)
  pub popped_now : (flags_at (taken s k q) k).popped ≡ true
  pub common_now : (flags_at (taken s k q) k).common ≡ (flags_at s k).common

drawn_short : (s : Walk) (k : Entry ℕ) (q : Waits) → s.queue ≡ k ∷ q → length s.queue ≤ seen_rows s → length q ≤ seen_rows (drawn s q)
unfolding seen_rows
drawn_short s x q e h = omega (arith, h, ap {A = Waits} {B = ℕ} (λ x. length x) e)

pub taken_good : (W : World) (s : Walk) (x : Entry ℕ) (q : Waits) → Good W s → s.queue ≡ x ∷ q → Drawn W s x.value q
taken_good W s x q G e =
    let k = x.value in
    let F = G.fine k in
    let f = flags_at s k in
    let one : occ k s.queue ≡ suc (occ k q) = ap (occ k) e ∙ occ_head x q in
    let se : f.seen ≡ true = F.queued_seen (omega (arith, one)) in
    let po : f.popped ≡ false = F.queued_unpopped (omega (arith, one)) in
    let l : k < length s.rows = seen_in s k se in
    let le : W.Exact → bit (open_flags f) ≤ s.count = λ x. omega (arith, G.tally x, get_or-le-sum_by (λ (r : Row). bit (is_open r)) s.rows k no_row l) in
    let was : bit (open_flags f) ≡ cond f.common 0 1 = open_seen f se po in
    let is : open_flags (join POPPED f) ≡ false = bits f.seen in
    let none-now : occ k q ≡ 0 = omega (arith, one, F.once) in
    let c = s.count - cond f.common 0 1 in
    record {
      range = l;
      unpopped = po;
      seen = se;
      good = λ why pp. change_good W s k (join POPPED f) q c G l (λ x. omega (arith, le x, was, ap bit is))
          (λ j ne. sym (ap (occ j) e ∙ occ_skip j x q ne))
          (record { waits1 = λ h. absurd (both_ways _ is h); once = omega (arith, none-now); queued_seen = λ h. se; queued_unpopped = λ h. absurd (let z = none-now in omega (arith, h, none-now)); ref_seen = λ h. se; pop_seen = λ h. se })
          (omega (arith, ap {A = Waits} {B = ℕ} (λ x. length x) e)) (G.cov k) (G.ref k) (λ h. why) (λ h. pp);
      ext = change_ext s k (join POPPED f) q c l (λ h. h) (λ h. h) (λ h. refl) (omega (arith, ap {A = Waits} {B = ℕ} (λ x. length x) e));
      left = λ z. record { tally = G.tally; pop = G.pop; fine = λ j. rest z l none-now j; cov = G.cov; ref = G.ref; ans = G.ans; from = G.from; uniq = G.uniq; room = G.room; short = drawn_short s x q e G.short };
      popped_now = ap (λ (r : Row). r.flags.popped) (row_same s k _ [] 0 l);
      common_now = ap (λ (r : Row). r.flags.common) (row_same s k _ [] 0 l);
    }
  where
    bits : (a : Bool) → (a && false) ≡ false
    bits true = refl
    bits false = refl

    rest : open_flags (flags_at s x.value) ≡ false → x.value < length s.rows → occ x.value q ≡ 0 → (j : ℕ) → Fine (flags_at s j) (occ j q)
    rest z l nn j = ⊎_elim
        (λ ej. subst (λ (m : ℕ). Fine (flags_at s m) (occ m q)) (sym ej)
        (let F = G.fine x.value in
        record { waits1 = λ h. absurd (both_ways _ z h); once = omega (arith, nn); queued_seen = λ h. absurd (omega (arith, h, nn)); queued_unpopped = λ h. absurd (omega (arith, h, nn)); ref_seen = F.ref_seen; pop_seen = F.pop_seen }))
        (λ ne. subst (Fine (flags_at s j)) (ap (occ j) e ∙ occ_skip j x q ne) (G.fine j)) (cases_eq j x.value)
