-- The single steps of the skipping walk: what each keeps.
use Rattle.std.proofs.Common.{◌≡◌, ℕ, ◌+◌, ◌-◌, ◌<◌, ◌≤◌, Bool, true, false, cond, not, ◌&&◌, ltb, List, [], ◌∷◌, length, ℤ, count_by, refl, ap, inr, arith}
use mathlib.Core.Option.{none}
use lib.Signed.{lt_z}
use Rattle.std.proofs.lemmas.List.Sums.{sum_by-set, sum_by_push, get_or-le-sum_by}
use Rattle.std.proofs.lemmas.Bool.{true≢false, false≢true, cond_both}
use Rattle.source.specs.declared.ObjectId.{ObjectId}
use Rattle.source.specs.Meaning.{commit}
use Rattle.book.specs.declared.types.Remark.{Remark}
use Rattle.book.specs.declared.types.Remark.TheVariants as remark
use Rattle.queue.specs.declared.entry.Entry.{Entry}
use Rattle.queue.specs.Waiting.{enter}
use Rattle.model.specs.declared.Step.{Step}
use Rattle.model.specs.Book.{Flags, COMMON, POPPED, join, Row, no_row, reflag, renumber, Waits, Marks, Walk, row, flags_at, put, change, recount, drawn, stop, fresh_row, add_row, find, Source, place}
use Rattle.model.specs.Steps.{taken, remarked, noted}
use Rattle.model.specs.Consecutive.{commoned}
use Rattle.model.specs.Skipping.{shared, falls, relieved, at_row, new_original, new_ttl, numbered}
use Rattle.model.specs.Steady.{bit, open_flags, is_open, World, Good, Ext, lax, opens, pending, Low, seen_rows, common_rows}
use Rattle.model.proofs.Basics.{length_enter}
use Rattle.model.proofs.Good.{Same, each_put, put_good, put_ext, ext_refl, seen_in, none_open, add_flags, add_good, add_ext}
use Rattle.model.proofs.Ops.{noted_good, enter_good, commoned_good, taken_good}
use Rattle.model.proofs.Runs.{stop_good, stop_ext, drawn_ext}

pub pending_same : (s t : Walk) (q : Marks) → ((k : ℕ) → (flags_at t k).popped ≡ (flags_at s k).popped) → pending t q ≡ pending s q
pending_same s t [] h = refl
pending_same s t (e ∷ q) h = omega (arith, pending_same s t q h, ap (λ (b : Bool). bit (not b)) (h e.value.row))

pub pending_enter : (s : Walk) (e : Entry Step) (q : Marks) → pending s (enter e q) ≡ bit (not (flags_at s e.value.row).popped) + pending s q
pending_enter s e [] = refl
pending_enter s e (j ∷ js) = go (lt_z j.date e.date) (pending_enter s e js)
  where
    go : (b : Bool) → pending s (enter e js) ≡ bit (not (flags_at s e.value.row).popped) + pending s js → pending s (cond b (e ∷ j ∷ js) (j ∷ enter e js)) ≡ bit (not (flags_at s e.value.row).popped) + pending s (j ∷ js)
    go true ih = refl
    go false ih = omega (arith, ih)

pub opens_put : (s : Walk) (k : ℕ) (r : Row) (q : Waits) (c : ℕ) → k < length s.rows → opens (put s k r q c) + bit (open_flags (flags_at s k)) ≡ opens s + bit (open_flags r.flags)
unfolding opens
opens_put s k r q c l = sum_by-set (λ (y : Row). bit (is_open y)) s.rows k r no_row l

-- the rows alone say how many are open, and how many are seen
pub opens_rows : (s t : Walk) → t.rows ≡ s.rows → opens t ≡ opens s
unfolding opens
opens_rows s t e = ap (λ (rs : List Row). count_by is_open rs) e

pub opens_add : (s : Walk) (i : ObjectId) (d : ℤ) (ps : List ObjectId) → opens (add_row s i d ps) ≡ opens s
unfolding opens
opens_add s i d ps = omega (arith, sum_by_push (λ (r : Row). bit (is_open r)) s.rows (fresh_row i d ps))

pub open_le : (s : Walk) (k : ℕ) → k < length s.rows → bit (open_flags (flags_at s k)) ≤ opens s
unfolding opens
open_le s k l = get_or-le-sum_by (λ (r : Row). bit (is_open r)) s.rows k no_row l

pub opens_none : (s : Walk) (k : ℕ) → opens s ≤ 0 → (flags_at s k).seen ≡ true → open_flags (flags_at s k) ≡ false
unfolding opens
opens_none s k z se = none_open s k z se

-- COMMON set at a row that lacks it
pub shared_opens : (s : Walk) (k : ℕ) → k < length s.rows → (flags_at s k).common ≡ false → opens (shared s k) + bit ((flags_at s k).seen && not (flags_at s k).popped) ≡ opens s
shared_opens s k l un =
    omega (arith, opens_put s k (reflag (row s k) (join COMMON (flags_at s k))) s.queue s.count l, bits (flags_at s k).seen (flags_at s k).popped (flags_at s k).common un, bits' (flags_at s k).seen (flags_at s k).popped)
  where
    bits : (a b c : Bool) → c ≡ false → bit (a && (not b && not c)) ≡ bit (a && not b)
    bits true true c h = refl
    bits true false true h = absurd (true≢false h)
    bits true false false h = refl
    bits false b c h = refl

    bits' : (a b : Bool) → bit (a && (not b && false)) ≡ 0
    bits' true true = refl
    bits' true false = refl
    bits' false b = refl

pub shared_pending : (s : Walk) (k : ℕ) (q : Marks) → k < length s.rows → pending (shared s k) q ≡ pending s q
shared_pending s k q l = pending_same s (shared s k) q (each_put s k (reflag (row s k) (join COMMON (flags_at s k))) s.queue s.count (λ j y. y.flags.popped ≡ (flags_at s j).popped) l refl (λ j ne. refl))

pub seen_bit : (a b : Bool) → a ≡ true → bit (a && b) ≡ bit b
seen_bit true b e = refl
seen_bit false b e = absurd (false≢true e)

pub falls_bit : (b : Bool) → cond b 0 1 ≡ bit (not b)
falls_bit true = refl
falls_bit false = refl

-- only the count changes
recount_ext : (s t : Walk) (c : ℕ) → Ext s t → Ext s (recount t c)
unfolding seen_rows common_rows
recount_ext s t c x = record { longer = x.longer; same_parents = x.same_parents; same_id = x.same_id; seen_stays = x.seen_stays; common_stays = x.common_stays; popped_stays = x.popped_stays; pays = x.pays; seens = x.seens; commons = x.commons; most = x.most }

pub relieved_ext : (s : Walk) (k : ℕ) → Ext s (relieved s k)
relieved_ext s k = recount_ext s s (s.count - falls (flags_at s k)) (ext_refl s)

module _ (src : Source) (P : ℕ → Type 0) (R : Type 0) where
  abbrev W : World
  W = lax src P R

  recount_good : (s : Walk) (c : ℕ) → Good W s → Good W (recount s c)
  unfolding seen_rows
  recount_good s c G = record { tally = λ x. absurd x; pop = G.pop; fine = G.fine; cov = G.cov; ref = G.ref; ans = G.ans; from = G.from; uniq = G.uniq; room = G.room; short = G.short }

  -- a row is added
  pub add_low : (q : Marks) (s : Walk) (i : ObjectId) (d : ℤ) (ps : List ObjectId) → Low W q s → find i s.rows ≡ none → (R → src i ≡ commit d ps) → length s.rows < s.most_rows → Low W q (add_row s i d ps)
  add_low q s i d ps H e c l = record {
    good = add_good W s i d ps H.good e c l;
    low = omega (arith, H.low, opens_add s i d ps, pending_same s (add_row s i d ps) q (λ j. ap (λ (x : Flags). x.popped) (add_flags s i d ps j)));
    high = omega (arith, H.high, (add_ext s i d ps).seens);
  }

  pub stop_low : (q : Marks) (s : Walk) → Low W q s → Low W q (stop s)
  stop_low q s H = record {
    good = stop_good W s H.good;
    low = omega (arith, H.low, opens_rows s (stop s) refl, pending_same s (stop s) q (λ j. refl));
    high = omega (arith, H.high, (stop_ext s).seens);
  }

  -- a row enters the queue as it gains SEEN
  pub enter_low : (s : Walk) (k : ℕ) (f : Flags) → Low W [] s → k < length s.rows
      → (flags_at s k).seen ≡ false → f.seen ≡ true → f.popped ≡ (flags_at s k).popped → ((flags_at s k).common ≡ true → f.common ≡ true)
      → Low W [] (change s k f (place s.rows k s.queue) (s.count + 1)) × Ext s (change s k f (place s.rows k s.queue) (s.count + 1))
  enter_low s k f H l un se po co =
      let a = enter_good W s k f (s.count + 1) (λ x. absurd x) H.good l un se po co (λ h. tt) (λ h. tt) in
      let o = opens_put s k (reflag (row s k) f) (place s.rows k s.queue) (s.count + 1) l in
      let was : bit (open_flags (flags_at s k)) ≡ 0 = shut (flags_at s k).seen (not (flags_at s k).popped && not (flags_at s k).common) un in
      let longer = length_enter {V = ℕ} (record { date = (row s k).date; value = k }) s.queue in
      (record { good = a.0; low = omega (arith, H.low, o, was, at_most (open_flags f)); high = omega (arith, H.high, a.1.pays, longer) }, a.1)
    where
      shut : (a b : Bool) → a ≡ false → bit (a && b) ≡ 0
      shut true b e = absurd (true≢false e)
      shut false b e = refl

      at_most : (b : Bool) → bit b ≤ 1
      at_most true = omega arith
      at_most false = omega arith

  -- COMMON set at a row that lacks it; a row of the marking queue may come in with it
  pub common_low : (q q' : Marks) (s : Walk) (k : ℕ) → Low W q s → k < length s.rows → (flags_at s k).common ≡ false → pending s q' ≤ pending s q + bit ((flags_at s k).seen && not (flags_at s k).popped)
      → Low W q' (shared s k) × Ext s (shared s k) × ((flags_at (shared s k) k).common ≡ true)
  common_low q q' s k H l un lo =
      let a = commoned_good W s k H.good l un tt in
      let x : Ext s (shared s k) = recount_ext s (commoned s k) s.count a.1 in
      (record { good = recount_good (commoned s k) s.count a.0; low = omega (arith, H.low, lo, shared_opens s k l un, shared_pending s k q' l); high = omega (arith, H.high, x.seens) }, x, a.2)

  -- of a row with SEEN, which enters the marking queue
  pub gain_low : (d : ℤ) (q : Marks) (s : Walk) (k : ℕ) → Low W q s → (flags_at s k).common ≡ false → (flags_at s k).seen ≡ true
      → Low W (enter (record { date = d; value = at_row k }) q) (shared s k) × Ext s (shared s k) × ((flags_at (shared s k) k).common ≡ true)
  gain_low d q s k H un se = common_low q (enter (record { date = d; value = at_row k }) q) s k H (seen_in s k se) un
      (omega (arith, seen_bit (flags_at s k).seen (not (flags_at s k).popped) se, pending_enter s (record { date = d; value = at_row k }) q))

  -- and of one without
  pub share_low : (q : Marks) (s : Walk) (k : ℕ) → Low W q s → k < length s.rows → (flags_at s k).common ≡ false → (flags_at s k).seen ≡ false
      → Low W q (shared s k) × Ext s (shared s k)
  share_low q s k H l un se = let a = common_low q q s k H l un (omega arith) in (a.0, a.1)

  -- an entry of the marking queue is drawn
  pub draw_low : (e : Entry Step) (q : Marks) (s : Walk) → Low W (e ∷ q) s → Low W q (relieved s e.value.row)
  draw_low e q s H =
      let k = e.value.row in
      let c = s.count - falls (flags_at s k) in
      record {
        good = recount_good s c H.good;
        low = omega (arith, H.low, falls_bit (flags_at s k).popped, opens_rows s (recount s c) refl, pending_same s (recount s c) q (λ j. refl));
        high = omega (arith, H.high, (relieved_ext s k).seens);
      }

  -- skip numbers are written
  pub number_low : (s : Walk) (k o t : ℕ) → Low W [] s → k < length s.rows → Low W [] (numbered o t s k) × Ext s (numbered o t s k)
  number_low s k o t H l = cond_both (ltb (row s k).original (new_original o t)) _ _ (λ u. Low W [] u × Ext s u)
      (λ e. (
        record {
          good = put_good W s k r s.queue s.count H.good l sa (λ x. absurd x) (λ j ne. refl) (H.good.fine k) (omega arith) (λ h. tt) (λ h. tt) (λ h. inr tt) (H.good.pop k);
          low = omega (arith, H.low, opens_put s k r s.queue s.count l);
          high = omega (arith, H.high, x.seens);
        },
        x,
      ))
      (λ e. (H, ext_refl s))
    where
      r : Row
      r = renumber (row s k) (new_original o t) (new_ttl o t)

      sa : Same (row s k) r
      sa = record { id = refl; date = refl; parents = refl }

      x : Ext s (put s k r s.queue s.count)
      x = put_ext s k r s.queue s.count l sa (λ h. h) (λ h. h) (λ h. h) (omega arith)

  -- a note
  pub note_low : (b : Remark) (s : Walk) (k : ℕ) → Low W [] s → k < length s.rows → Low W [] (noted b s k) × Ext s (noted b s k)
  note_low b s k H l =
      let r = noted_good W b s k H.good l in
      let o = opens_put s k (reflag (row s k) (join (remarked b) (flags_at s k))) s.queue s.count l in
      (record { good = r.0; low = omega (arith, H.low, o, ap bit (open_remarked b (flags_at s k))); high = omega (arith, H.high, r.1.seens) }, r.1)
    where
      open_remarked : (b : Remark) (f : Flags) → open_flags (join (remarked b) f) ≡ open_flags f
      open_remarked remark.Complete f = refl
      open_remarked remark.Alternate f = refl

  -- a row is drawn
  pub record Took (s : Walk) (k : ℕ) (q : Waits) : Type 0 where
    pub range : k < length s.rows
    pub unpopped : (flags_at s k).popped ≡ false
    pub now : P k → Low W [] (taken s k q)
    pub ext : Ext s (taken s k q)
    pub left : s.count ≡ 0 → Low W [] (drawn s q)
    pub popped_now : (flags_at (taken s k q) k).popped ≡ true

  pub take_low : (s : Walk) (x : Entry ℕ) (q : Waits) → Low W [] s → s.queue ≡ x ∷ q → Took s x.value q
  take_low s x q H e =
      let k = x.value in
      let d = taken_good W s x q H.good e in
      let f = flags_at s k in
      let c = s.count - cond f.common 0 1 in
      let o = opens_put s k (reflag (row s k) (join POPPED f)) q c d.range in
      let was = bits f.seen f.popped f.common d.seen d.unpopped in
      let is = bits' f.seen in
      record {
        range = d.range;
        unpopped = d.unpopped;
        ext = d.ext;
        popped_now = d.popped_now;
        now = λ p. record { good = d.good (inr tt) p; low = omega (arith, H.low, o, was, is, open_le s k d.range); high = omega (arith, H.high, d.ext.seens) };
        left = λ z. record { good = d.left (opens_none s k (omega (arith, H.low, z)) d.seen); low = omega (arith, H.low, opens_rows s (drawn s q) refl); high = omega (arith, H.high, (drawn_ext s x q e).seens) };
      }
    where
      bits : (a b c : Bool) → a ≡ true → b ≡ false → bit (a && (not b && not c)) ≡ cond c 0 1
      bits true false true x y = refl
      bits true false false x y = refl
      bits true true c x y = absurd (true≢false y)
      bits false b c x y = absurd (false≢true x)

      bits' : (a : Bool) → bit (a && false) ≡ 0
      bits' true = refl
      bits' false = refl
