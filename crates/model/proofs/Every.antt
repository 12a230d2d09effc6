-- Each negotiator keeps what the laws need; so every past is lawful.
use Rattle.std.proofs.Common.{◌≡◌, ℕ, suc, Bool, true, false, not, ◌&&◌, ◌||◌, List, [], ◌∷◌, get_or, count_by, sym, refl, ◌∙◌, subst, inl, inr, arith}
use Rattle.std.proofs.lemmas.List.Sums.{sum_by-cons}
use Rattle.std.proofs.lemmas.Bool.{both_ways, false≢true}
use Rattle.source.specs.declared.ObjectId.{ObjectId}
use Rattle.book.specs.declared.types.Remark.{Remark}
use Rattle.model.specs.declared.Algorithm.{Algorithm}
use Rattle.model.specs.declared.Algorithm.TheVariants as algorithm
use Rattle.model.specs.declared.Event.{Event}
use Rattle.model.specs.declared.Call.{Call}
use Rattle.model.specs.declared.Call.TheVariants.{NextHave}
use Rattle.model.specs.declared.Reply.{Reply}
use Rattle.model.specs.declared.Reply.TheVariants.{Done, Have, NoneLeft, Told, Denied}
use Rattle.model.specs.Book.{SEEN, ADVERTISED_AND_SEEN, Row, no_row, Walk, made, row, flags_at, Source}
use Rattle.model.specs.Steps.{ok, no, Noted}
use Rattle.model.specs.Consecutive
use Rattle.model.specs.Skipping
use Rattle.model.specs.Noop
use Rattle.model.specs.Past.{does, Called, Past, Accepted, AckOf, HaveOf, is_next, Has, is_seen, is_settled}
use Rattle.model.specs.Laws.{Counts, EveryPastLawful, EveryCallPops}
use Rattle.model.specs.Steady.{bit, is_open, World, Good, Ext, lax, opens, seen_rows, Low}
use Rattle.model.proofs.Good.{ext_refl, ext_trans, none_open, begun_good}
use Rattle.model.proofs.Ops.{lookup_finds}
use Rattle.model.proofs.Runs.{HeldCommon, held_common_ext, sees_held, push_seen, push_ref, mark_good, next_good}
use Rattle.model.proofs.Laws.{past_account, settled_bits, law_a, law_a_none, law_b}
use Rattle.model.proofs.Low.{stop_low, note_low}
use Rattle.model.proofs.SkipRuns.{look_low, add_unseen_low, plain_seen, plain_advertised, mark_low, next_low}
use Rattle.model.proofs.Keeps.{Stepped, Keeps, once_of, pops_of, uncommon_off, note_step}

-- an acknowledged id has COMMON, if the source has it
abbrev IsOff : Source → Walk → ObjectId → Type 0
IsOff src s i = Has src i → HeldCommon s i

-- a call that offers nothing
quiet : (Inv : Walk → Type 0) (Off : Walk → ObjectId → Type 0) (s : Walk) (c : Call) (a : Reply) (t : Walk) → Inv t → Ext s t → ((k : ℕ) → HaveOf a k → ⊥) → ((i : ObjectId) → AckOf c i → Accepted a → Off t i) → Stepped Inv Off s c a t
quiet Inv Off s c a t I x nh ac = record { inv = I; ext = x; fresh = λ k h. absurd (nh k h); acks = ac }

-- noop
module _ (src : Source) where
  abbrev Noops : (ℕ → Type 0) → Walk → Type 0
  Noops P = Good (lax src P (Unit {0}))

  noop_step : (P : ℕ → Type 0) (s : Walk) (c : Call) (a : Reply) (t : Walk) → Noops P s → Noop.Ran src s c a t → Stepped (Noops P) (λ u i. Unit {0}) s c a t
  noop_step P s c a t G Noop.Ran.tips = quiet (Noops P) (λ u i. Unit {0}) s c a t G (ext_refl s) (λ k h. h) (λ i x y. tt)
  noop_step P s c a t G Noop.Ran.knows = quiet (Noops P) (λ u i. Unit {0}) s c a t G (ext_refl s) (λ k h. h) (λ i x y. tt)
  noop_step P s c a t G Noop.Ran.acks = quiet (Noops P) (λ u i. Unit {0}) s c a t G (ext_refl s) (λ k h. h) (λ i x y. tt)
  noop_step P s c a t G (Noop.Ran.notes {r = b} {i = i} {a = x} {s' = u} n) =
      let r = note_step (lax src P (Unit {0})) tt s b i x u G n in quiet (Noops P) (λ u i. Unit {0}) s c a t r.0 r.1 r.2 (λ i x y. tt)
  noop_step P s c a t G Noop.Ran.next_have = quiet (Noops P) (λ u i. Unit {0}) s c a t G (ext_refl s) (λ k h. h) (λ i x y. tt)

  tight : (P : ℕ → Type 0) (s : Walk) → Noops P s → Noops (λ k. (flags_at s k).popped ≡ true) s
  tight P s G = record { tally = λ x. absurd x; pop = λ k h. h; fine = G.fine; cov = G.cov; ref = G.ref; ans = G.ans; from = G.from; uniq = G.uniq; room = G.room; short = G.short }

  noop_keeps : Keeps src (Noop.Ran src)
  noop_keeps = record { Inv = Noops; Off = λ u i. Unit {0}; begun = λ P n l. begun_good (lax src P (Unit {0})) n l; good = λ P s G. G; tight = tight; off_stays = λ s t i x o. tt; step = λ P s c a t G pp r. noop_step P s c a t G r }

-- consecutive
module _ (src : Source) where
  abbrev strict : (ℕ → Type 0) → World
  strict P = record { src = src; Cov = λ i. Unit {0}; Ref = λ i. Unit {0}; Ans = λ k. Unit {0}; Pop = P; Real = Unit {0}; Exact = Unit {0}; down = λ b c x y z. tt; ref_down = λ b c x y z. tt }

  abbrev Strict : (ℕ → Type 0) → Walk → Type 0
  Strict P = Good (strict P)

  to_lax : (P : ℕ → Type 0) (s : Walk) → Strict P s → Good (lax src P (Unit {0})) s
  to_lax P s G = record { tally = λ x. absurd x; pop = G.pop; fine = G.fine; cov = G.cov; ref = G.ref; ans = G.ans; from = G.from; uniq = G.uniq; room = G.room; short = G.short }

  strict_tight : (P : ℕ → Type 0) (s : Walk) → Strict P s → Strict (λ k. (flags_at s k).popped ≡ true) s
  strict_tight P s G = record { tally = G.tally; pop = λ k h. h; fine = G.fine; cov = G.cov; ref = G.ref; ans = G.ans; from = G.from; uniq = G.uniq; room = G.room; short = G.short }

  con_quiet : (P : ℕ → Type 0) (s : Walk) (c : Call) (a : Reply) (t : Walk) → Strict P t → Ext s t → ((k : ℕ) → HaveOf a k → ⊥) → ((i : ObjectId) → AckOf c i → Accepted a → IsOff src t i) → Stepped (Strict P) (IsOff src) s c a t
  con_quiet P = quiet (Strict P) (IsOff src)

  con_next : (P : ℕ → Type 0) (s : Walk) (a : Reply) (t : Walk) → ((k : ℕ) → P k) → Strict P s → Consecutive.Next src s a t → Stepped (Strict P) (IsOff src) s NextHave a t
  con_next P s Done t pp G n = let r = next_good (strict P) tt n tt pp G tt in con_quiet P s NextHave Done t r.good r.ext (λ k h. h) (λ i h. absurd h)
  con_next P s (Have k) t pp G n =
      let r = next_good (strict P) tt n tt pp G tt in
      let f = r.says in
      record {
        inv = r.good;
        ext = r.ext;
        acks = λ i h. absurd h;
        fresh = λ j e. subst (λ (m : ℕ). ((flags_at s m).popped ≡ true → ⊥) × (IsOff src s (row t m).id → ⊥) × ((flags_at t m).popped ≡ true)) e
            (f.unpopped, uncommon_off src P s t k r.ext (to_lax P t r.good) f.uncommon f.popped_now, f.popped_now);
      }
  con_next P s NoneLeft t pp G n = let r = next_good (strict P) tt n tt pp G tt in con_quiet P s NextHave NoneLeft t r.good r.ext (λ k h. h) (λ i h. absurd h)
  con_next P s (Told b) t pp G n = let r = next_good (strict P) tt n tt pp G tt in con_quiet P s NextHave (Told b) t r.good r.ext (λ k h. h) (λ i h. absurd h)
  con_next P s (Denied d) t pp G n = let r = next_good (strict P) tt n tt pp G (λ k. tt) in con_quiet P s NextHave (Denied d) t r.good r.ext (λ k h. h) (λ i h. absurd h)

  con_step : (P : ℕ → Type 0) (s : Walk) (c : Call) (a : Reply) (t : Walk) → Strict P s → (is_next c ≡ true → (k : ℕ) → P k) → Consecutive.Ran src s c a t → Stepped (Strict P) (IsOff src) s c a t
  con_step P s c a t G pp (Consecutive.Ran.tip_ok {i = i} {s' = u} p) = let r = push_seen (strict P) tt i s (ok u) G p in con_quiet P s c a t r.good r.ext (λ k h. h) (λ i h. absurd h)
  con_step P s c a t G pp (Consecutive.Ran.tip_no {i = i} {d = d} {s' = u} p) = let r = push_seen (strict P) tt i s (no d u) G p in con_quiet P s c a t r.good r.ext (λ k h. h) (λ i h. absurd h)
  con_step P s c a t G pp (Consecutive.Ran.known_seen z) = con_quiet P s c a t G (ext_refl s) (λ k h. h) (λ i h. absurd h)
  con_step P s c a t G pp (Consecutive.Ran.known_no {i = i} {d = d} {s' = u} z p) = let r = push_ref (strict P) tt i s (no d u) G z tt p in con_quiet P s c a t r.good r.ext (λ k h. h) (λ i h. absurd h)
  con_step P s c a t G pp (Consecutive.Ran.known_halt {i = i} {d = d} {s' = u} {s'' = v} z p m) =
      let r = push_ref (strict P) tt i s (ok u) G z tt p in
      let q = mark_good (strict P) tt false false i u (no d v) r.good (λ x y. tt) (λ x y w. tt) m in
      con_quiet P s c a t q.good (ext_trans s u v r.ext q.ext) (λ k h. h) (λ i h. absurd h)
  con_step P s c a t G pp (Consecutive.Ran.known_ok {i = i} {s' = u} {s'' = v} z p m) =
      let r = push_ref (strict P) tt i s (ok u) G z tt p in
      let q = mark_good (strict P) tt false false i u (ok v) r.good (λ x y. tt) (λ x y w. tt) m in
      con_quiet P s c a t q.good (ext_trans s u v r.ext q.ext) (λ k h. h) (λ i h. absurd h)
  con_step P s c a t G pp (Consecutive.Ran.ack_no {i = i} {d = d} {s' = u} m) =
      let q = mark_good (strict P) tt true false i s (no d u) G (λ x y. tt) (λ x y w. tt) m in
      con_quiet P s c a t q.good q.ext (λ k h. h) (λ j e x. absurd x)
  con_step P s c a t G pp (Consecutive.Ran.ack_ok {i = i} {s' = u} m) =
      let q = mark_good (strict P) tt true false i s (ok u) G (λ x y. tt) (λ x y w. tt) m in
      con_quiet P s c a t q.good q.ext (λ k h. h) (λ j e x h. subst (HeldCommon u) e (q.common_now refl tt (subst (Has src) (sym e) h)))
  con_step P s c a t G pp (Consecutive.Ran.notes {r = b} {i = i} {a = x} {s' = u} n) =
      let r = note_step (strict P) tt s b i x u G n in con_quiet P s c a t r.0 r.1 r.2 (λ j h. absurd h)
  con_step P s c a t G pp (Consecutive.Ran.next_have {a = x} {s' = u} n) = con_next P s x u (pp refl) G n

  con_keeps : Keeps src (Consecutive.Ran src)
  con_keeps = record { Inv = Strict; Off = IsOff src; begun = λ P n l. begun_good (strict P) n l; good = to_lax; tight = strict_tight; off_stays = λ s t i x o h. held_common_ext s t i x (o h); step = con_step }

-- skipping
module _ (src : Source) where
  abbrev Lows : (ℕ → Type 0) → Walk → Type 0
  Lows P = Low (lax src P (Unit {0})) []

  begun_low : (P : ℕ → Type 0) (n l : ℕ) → Lows P (made n l)
  unfolding opens seen_rows
  begun_low P n l = record { good = begun_good (lax src P (Unit {0})) n l; low = omega arith; high = omega arith }

  skip_quiet : (P : ℕ → Type 0) (s : Walk) (c : Call) (a : Reply) (t : Walk) → Lows P t → Ext s t → ((k : ℕ) → HaveOf a k → ⊥) → ((i : ObjectId) → AckOf c i → Accepted a → IsOff src t i) → Stepped (Lows P) (IsOff src) s c a t
  skip_quiet P = quiet (Lows P) (IsOff src)

  notes_low : (P : ℕ → Type 0) (s : Walk) (b : Remark) (i : ObjectId) (a : Reply) (t : Walk) → Lows P s → Noted src s b i a t → Lows P t
  notes_low P s b i a t H (Noted.barred l) = stop_low src P (Unit {0}) [] s H
  notes_low P s b i a t H (Noted.gone l) = H
  notes_low P s b i a t H (Noted.set_at {k = k} {s' = u} l) = (note_low src P (Unit {0}) b u k (look_low src P [] s i k u H l) (lookup_finds (lax src P (Unit {0})) tt s i k u H.good l).range).0

  skip_next : (P : ℕ → Type 0) (s : Walk) (a : Reply) (t : Walk) → ((k : ℕ) → P k) → Lows P s → Skipping.Next src s a t → Stepped (Lows P) (IsOff src) s NextHave a t
  skip_next P s Done t pp H n = let r = next_low src P n pp H in skip_quiet P s NextHave Done t r.now r.ext (λ k h. h) (λ i h. absurd h)
  skip_next P s (Have k) t pp H n =
      let r = next_low src P n pp H in
      let f = r.says in
      record {
        inv = r.now;
        ext = r.ext;
        acks = λ i h. absurd h;
        fresh = λ j e. subst (λ (m : ℕ). ((flags_at s m).popped ≡ true → ⊥) × (IsOff src s (row t m).id → ⊥) × ((flags_at t m).popped ≡ true)) e
            (f.0, uncommon_off src P s t k r.ext r.now.good f.1 f.2, f.2);
      }
  skip_next P s NoneLeft t pp H n = let r = next_low src P n pp H in skip_quiet P s NextHave NoneLeft t r.now r.ext (λ k h. h) (λ i h. absurd h)
  skip_next P s (Told b) t pp H n = let r = next_low src P n pp H in skip_quiet P s NextHave (Told b) t r.now r.ext (λ k h. h) (λ i h. absurd h)
  skip_next P s (Denied d) t pp H n = let r = next_low src P n pp H in skip_quiet P s NextHave (Denied d) t r.now r.ext (λ k h. h) (λ i h. absurd h)

  skip_step : (P : ℕ → Type 0) (s : Walk) (c : Call) (a : Reply) (t : Walk) → Lows P s → (is_next c ≡ true → (k : ℕ) → P k) → Skipping.Ran src s c a t → Stepped (Lows P) (IsOff src) s c a t
  skip_step P s c a t H pp (Skipping.Ran.tip_ok {i = i} {s' = u} p) = let r = add_unseen_low src P SEEN i s (ok u) plain_seen H p in skip_quiet P s c a t r.now r.ext (λ k h. h) (λ i h. absurd h)
  skip_step P s c a t H pp (Skipping.Ran.tip_no {i = i} {d = d} {s' = u} p) = let r = add_unseen_low src P SEEN i s (no d u) plain_seen H p in skip_quiet P s c a t r.now r.ext (λ k h. h) (λ i h. absurd h)
  skip_step P s c a t H pp (Skipping.Ran.known_ok {i = i} {s' = u} p) = let r = add_unseen_low src P ADVERTISED_AND_SEEN i s (ok u) plain_advertised H p in skip_quiet P s c a t r.now r.ext (λ k h. h) (λ i h. absurd h)
  skip_step P s c a t H pp (Skipping.Ran.known_no {i = i} {d = d} {s' = u} p) = let r = add_unseen_low src P ADVERTISED_AND_SEEN i s (no d u) plain_advertised H p in skip_quiet P s c a t r.now r.ext (λ k h. h) (λ i h. absurd h)
  skip_step P s c a t H pp (Skipping.Ran.ack_unseen z) = skip_quiet P s c a t H (ext_refl s) (λ k h. h) (λ j e x. absurd x)
  skip_step P s c a t H pp (Skipping.Ran.ack_no {i = i} {d = d} {s' = u} z m) =
      let q = mark_low src P i s (no d u) H (λ h. sees_held s i z) m in skip_quiet P s c a t q.now q.ext (λ k h. h) (λ j e x. absurd x)
  skip_step P s c a t H pp (Skipping.Ran.ack_ok {i = i} {s' = u} z m) =
      let q = mark_low src P i s (ok u) H (λ h. sees_held s i z) m in
      skip_quiet P s c a t q.now q.ext (λ k h. h) (λ j e x h. subst (HeldCommon u) e (q.common_now tt (subst (Has src) (sym e) h)))
  skip_step P s c a t H pp (Skipping.Ran.notes {r = b} {i = i} {a = x} {s' = u} n) =
      let r = note_step (lax src P (Unit {0})) tt s b i x u H.good n in skip_quiet P s c a t (notes_low P s b i x u H n) r.1 r.2 (λ j h. absurd h)
  skip_step P s c a t H pp (Skipping.Ran.next_have {a = x} {s' = u} n) = skip_next P s x u (pp refl) H n

  skip_keeps : Keeps src (Skipping.Ran src)
  skip_keeps = record {
    Inv = Lows;
    Off = IsOff src;
    begun = begun_low;
    good = λ P s H. H.good;
    tight = λ P s H. record { good = tight src P s H.good; low = H.low; high = H.high };
    off_stays = λ s t i x o h. held_common_ext s t i x (o h);
    step = skip_step;
  }

keeps : (n : Algorithm) (src : Source) → Keeps src (does n src)
keeps algorithm.Noop src = noop_keeps src
keeps algorithm.Consecutive src = con_keeps src
keeps algorithm.Skipping src = skip_keeps src

-- where every seen commit is settled, none is open
open_none : (rs : List Row) → ((k : ℕ) → is_seen (get_or rs k no_row) ≡ true → is_settled (get_or rs k no_row) ≡ true) → count_by is_open rs ≡ 0
open_none [] h = refl
open_none (r ∷ rs) h =
    omega (arith, open_none rs (λ k. h (suc k)), sum_by-cons (λ (y : Row). bit (is_open y)) r rs, bits r.flags.seen r.flags.popped r.flags.common (h 0))
  where
    bits : (a b c : Bool) → (a ≡ true → (a && (b || c)) ≡ true) → bit (a && (not b && not c)) ≡ 0
    bits true true c h = refl
    bits true false true h = refl
    bits true false false h = absurd (false≢true (h refl))
    bits false b c h = refl

counts : (src : Source) (h : List Event) (s : Walk) → Past algorithm.Consecutive src h s → Counts src h s
counts src h s p =
    let G = (past_account src p).0 in
    record {
      tallied = law_a src h s p;
      settled = λ z k se. settled_bits (flags_at s k) se (none_open s k (omega (arith, z, G.tally tt)) se);
      zero = λ st. G.tally tt ∙ open_none s.rows st;
      spent = λ z a t called ns. spends z a t called ns;
      complete = λ g e. law_b src g s (subst (λ (x : List Event). Past algorithm.Consecutive src x s) e p);
    }
  where
    spends : s.count ≡ 0 → (a : Reply) (t : Walk) → Called (Consecutive.Ran src) s NextHave a t → s.stopped ≡ false → a ≡ NoneLeft
    spends z a t (inl (st, ea, et)) ns = absurd (both_ways s.stopped ns st)
    spends z a t (inr (x, r)) ns = law_a_none src h s t a p ns z r

pub every_past_lawful : EveryPastLawful
every_past_lawful n src h s p = record {
  once = once_of src (does n src) (keeps n src) p;
  counts = λ e. counts src h s (subst (λ (m : Algorithm). Past m src h s) e p);
}

pub every_call_pops : EveryCallPops
every_call_pops n src = pops_of src (does n src) (keeps n src)
