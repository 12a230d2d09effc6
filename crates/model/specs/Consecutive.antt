-- The steps of the consecutive walk.
use Rattle.std.specs.Prelude.{◌≡◌, ℕ, ◌+◌, ◌-◌, ◌<◌, Bool, true, false, cond, not, ◌&&◌, ◌||◌, List, [], ◌∷◌, nat_lt}
use Rattle.source.specs.declared.ObjectId.{ObjectId}
use Rattle.book.specs.declared.types.Denial.{Denial}
use Rattle.book.specs.declared.types.Remark.{Remark}
use Rattle.queue.specs.declared.entry.Entry.{Entry}
use Rattle.model.specs.declared.Step.{Step}
use Rattle.model.specs.declared.Call.{Call}
use Rattle.model.specs.declared.Call.TheVariants.{KnownCommon, AddTip, NextHave, InCommonWithRemote, Note}
use Rattle.model.specs.declared.Reply.{Reply}
use Rattle.model.specs.declared.Reply.TheVariants.{Done, Have, NoneLeft, Told, Denied}
use Rattle.model.specs.Book.{Flags, SEEN, COMMON, COMMON_REF_AND_SEEN, COMMON_AND_SEEN, join, meets, Waits, Marks, Walk, row, flags_at, change, drawn, stop, find, Source, place, place_mark}
use Rattle.model.specs.Steps.{found, nothing, denied, Lookup, Res, ok, no, sees, common_at, taken, Noted}

-- the flags m set at row k; it enters the queue if it had none of them
abbrev pub entered : Flags → Walk → ℕ → Walk
entered m s k = cond (meets m (flags_at s k))
    (change s k (join m (flags_at s k)) s.queue s.count)
    (change s k (join m (flags_at s k)) (place s.rows k s.queue) (s.count + cond (join m (flags_at s k)).common 0 1))

pub data Push (src : Source) (m : Flags) (i : ObjectId) (s : Walk) : Res → Type 0 where
  enters : (k : ℕ) (s' : Walk) → Lookup src s i (found k s') → Push src m i s (ok (entered m s' k))
  passes : Lookup src s i nothing → Push src m i s (ok s)
  denies : (d : Denial) → Lookup src s i (denied d) → Push src m i s (no d (stop s))

-- COMMON set at row k, which lowers the count if the row has SEEN without POPPED
abbrev pub waits : Flags → Bool
waits f = f.seen && not f.popped

abbrev pub commoned : Walk → ℕ → Walk
commoned s k = change s k (join COMMON (flags_at s k)) s.queue (s.count - cond (waits (flags_at s k)) 1 0)

-- Marking: draw from the marking queue until it is empty. `ps` are the parents, of a drawn row of generation g, that are still to be looked up
pub data Marking (src : Source) (all : Bool) : ℕ → List ObjectId → Marks → Walk → Res → Type 0 where
  done : {g : ℕ} {s : Walk} → Marking src all g [] [] s (ok s)
  unseen : {g : ℕ} {e : Entry Step} {q : Marks} {s : Walk} {out : Res} → (flags_at s e.value.row).seen ≡ false
      → Marking src all g [] q (entered SEEN s e.value.row) out → Marking src all g [] (e ∷ q) s out
  far : {g : ℕ} {e : Entry Step} {q : Marks} {s : Walk} {out : Res} → (flags_at s e.value.row).seen ≡ true → (all || nat_lt e.value.generation 2) ≡ false
      → Marking src all g [] q s out → Marking src all g [] (e ∷ q) s out
  near : {g : ℕ} {e : Entry Step} {q : Marks} {s : Walk} {out : Res} → (flags_at s e.value.row).seen ≡ true → (all || nat_lt e.value.generation 2) ≡ true
      → Marking src all e.value.generation (row s e.value.row).parents q s out → Marking src all g [] (e ∷ q) s out
  lost : {g : ℕ} {p : ObjectId} {ps : List ObjectId} {q : Marks} {s : Walk} {out : Res} → Lookup src s p nothing
      → Marking src all g ps q s out → Marking src all g (p ∷ ps) q s out
  barred : {g : ℕ} {p : ObjectId} {ps : List ObjectId} {q : Marks} {s : Walk} {d : Denial} → Lookup src s p (denied d) → Marking src all g (p ∷ ps) q s (no d (stop s))
  had : {g : ℕ} {p : ObjectId} {ps : List ObjectId} {q : Marks} {s : Walk} {out : Res} {k : ℕ} {s' : Walk} → Lookup src s p (found k s') → (flags_at s' k).common ≡ true
      → Marking src all g ps q s' out → Marking src all g (p ∷ ps) q s out
  gains : {g : ℕ} {p : ObjectId} {ps : List ObjectId} {q : Marks} {s : Walk} {out : Res} {k : ℕ} {s' : Walk} → Lookup src s p (found k s') → (flags_at s' k).common ≡ false
      → Marking src all g ps (place_mark s'.rows (record { row = k; generation = g + 1 }) q) (commoned s' k) out → Marking src all g (p ∷ ps) q s out

-- the row k alone waits to be marked from
abbrev pub alone : Walk → ℕ → Marks
alone s k = record { date = (row s k).date; value = record { row = k; generation = 0 } } ∷ []

pub data Mark (src : Source) (itself all : Bool) (i : ObjectId) (s : Walk) : Res → Type 0 where
  gone : Lookup src s i nothing → Mark src itself all i s (ok s)
  refused : {d : Denial} → Lookup src s i (denied d) → Mark src itself all i s (no d (stop s))
  already : {k : ℕ} {s' : Walk} → Lookup src s i (found k s') → (flags_at s' k).common ≡ true → Mark src itself all i s (ok s')
  with_it : {k : ℕ} {s' : Walk} {out : Res} → itself ≡ true → Lookup src s i (found k s') → (flags_at s' k).common ≡ false
      → Marking src all 0 [] (alone s' k) (commoned s' k) out → Mark src itself all i s out
  without : {k : ℕ} {s' : Walk} {out : Res} → itself ≡ false → Lookup src s i (found k s') → (flags_at s' k).common ≡ false
      → Marking src all 0 [] (alone s' k) s' out → Mark src itself all i s out

pub data PushUnseen (src : Source) (m : Flags) (i : ObjectId) (s : Walk) : Res → Type 0 where
  skips : sees s i ≡ true → PushUnseen src m i s (ok s)
  pushes : {out : Res} → sees s i ≡ false → Push src m i s out → PushUnseen src m i s out

-- what a drawn row passes on to each parent
abbrev pub passed_on : Bool → Flags
passed_on true = COMMON_AND_SEEN
passed_on false = SEEN

pub data Pass (src : Source) (both : Bool) : List ObjectId → Walk → Res → Type 0 where
  over : {s : Walk} → Pass src both [] s (ok s)
  stuck : {p : ObjectId} {ps : List ObjectId} {s : Walk} {d : Denial} {s' : Walk} → PushUnseen src (passed_on both) p s (no d s') → Pass src both (p ∷ ps) s (no d s')
  plain : {p : ObjectId} {ps : List ObjectId} {s s' : Walk} {out : Res} → both ≡ false → PushUnseen src (passed_on both) p s (ok s') → Pass src both ps s' out → Pass src both (p ∷ ps) s out
  halted : {p : ObjectId} {ps : List ObjectId} {s s' : Walk} {d : Denial} {s'' : Walk} → both ≡ true → PushUnseen src (passed_on both) p s (ok s') → Mark src false true p s' (no d s'') → Pass src both (p ∷ ps) s (no d s'')
  marked : {p : ObjectId} {ps : List ObjectId} {s s' s'' : Walk} {out : Res} → both ≡ true → PushUnseen src (passed_on both) p s (ok s') → Mark src false true p s' (ok s'') → Pass src both ps s'' out → Pass src both (p ∷ ps) s out

abbrev pub passes_both : Flags → Bool
passes_both f = f.common || f.cref

pub data Next (src : Source) : Walk → Reply → Walk → Type 0 where
  empty : {s : Walk} → s.queue ≡ [] → Next src s NoneLeft s
  spent : {s : Walk} {e : Entry ℕ} {q : Waits} → s.queue ≡ e ∷ q → s.count ≡ 0 → Next src s NoneLeft (drawn s q)
  answers : {s : Walk} {e : Entry ℕ} {q : Waits} {s' : Walk} → s.queue ≡ e ∷ q → 0 < s.count → (flags_at s e.value).common ≡ false
      → Pass src (passes_both (flags_at s e.value)) (row s e.value).parents (taken s e.value q) (ok s') → Next src s (Have e.value) s'
  goes_on : {s : Walk} {e : Entry ℕ} {q : Waits} {s' : Walk} {a : Reply} {s'' : Walk} → s.queue ≡ e ∷ q → 0 < s.count → (flags_at s e.value).common ≡ true
      → Pass src (passes_both (flags_at s e.value)) (row s e.value).parents (taken s e.value q) (ok s') → Next src s' a s'' → Next src s a s''
  stops : {s : Walk} {e : Entry ℕ} {q : Waits} {d : Denial} {s' : Walk} → s.queue ≡ e ∷ q → 0 < s.count
      → Pass src (passes_both (flags_at s e.value)) (row s e.value).parents (taken s e.value q) (no d s') → Next src s (Denied d) s'

-- a call on a walk that is not stopped
pub data Ran (src : Source) (s : Walk) : Call → Reply → Walk → Type 0 where
  tip_ok : {i : ObjectId} {s' : Walk} → Push src SEEN i s (ok s') → Ran src s (AddTip i) Done s'
  tip_no : {i : ObjectId} {d : Denial} {s' : Walk} → Push src SEEN i s (no d s') → Ran src s (AddTip i) (Denied d) s'
  known_seen : {i : ObjectId} → sees s i ≡ true → Ran src s (KnownCommon i) Done s
  known_no : {i : ObjectId} {d : Denial} {s' : Walk} → sees s i ≡ false → Push src COMMON_REF_AND_SEEN i s (no d s') → Ran src s (KnownCommon i) (Denied d) s'
  known_halt : {i : ObjectId} {d : Denial} {s' s'' : Walk} → sees s i ≡ false → Push src COMMON_REF_AND_SEEN i s (ok s') → Mark src false false i s' (no d s'') → Ran src s (KnownCommon i) (Denied d) s''
  known_ok : {i : ObjectId} {s' s'' : Walk} → sees s i ≡ false → Push src COMMON_REF_AND_SEEN i s (ok s') → Mark src false false i s' (ok s'') → Ran src s (KnownCommon i) Done s''
  ack_no : {i : ObjectId} {d : Denial} {s' : Walk} → Mark src true false i s (no d s') → Ran src s (InCommonWithRemote i) (Denied d) s'
  ack_ok : {i : ObjectId} {s' : Walk} → Mark src true false i s (ok s') → Ran src s (InCommonWithRemote i) (Told (common_at s (find i s.rows))) s'
  notes : {r : Remark} {i : ObjectId} {a : Reply} {s' : Walk} → Noted src s r i a s' → Ran src s (Note i r) a s'
  next_have : {a : Reply} {s' : Walk} → Next src s a s' → Ran src s NextHave a s'
