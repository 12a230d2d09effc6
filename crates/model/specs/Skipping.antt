-- The steps of the skipping walk.
use Rattle.std.specs.Prelude.{◌≡◌, ℕ, zero, suc, ◌+◌, ◌-◌, ◌*◌, ◌/◌, ◌<◌, min, Bool, true, false, cond, not, ◌&&◌, ◌||◌, List, [], ◌∷◌, ◌==◌, nat_lt}
use Rattle.std.proofs.Math.Option.{Option, none, some}
use Rattle.source.specs.declared.ObjectId.{ObjectId}
use Rattle.book.specs.declared.types.Denial.{Denial}
use Rattle.book.specs.declared.types.Denial.TheVariants as denial
use Rattle.book.specs.declared.types.Remark.{Remark}
use Rattle.queue.specs.declared.entry.Entry.{Entry}
use Rattle.model.specs.declared.Step.{Step}
use Rattle.model.specs.declared.Call.{Call}
use Rattle.model.specs.declared.Call.TheVariants.{KnownCommon, AddTip, NextHave, InCommonWithRemote, Note}
use Rattle.model.specs.declared.Reply.{Reply}
use Rattle.model.specs.declared.Reply.TheVariants.{Done, Have, NoneLeft, Told, Denied}
use Rattle.model.specs.Book.{Flags, SEEN, COMMON, ADVERTISED_AND_SEEN, join, Row, renumber, Waits, Marks, Walk, row, flags_at, put, change, recount, drawn, stop, find, Source, place, place_mark}
use Rattle.model.specs.Steps.{found, nothing, denied, Lookup, Res, ok, no, sees, common_at, taken, Noted}

-- the bits of m set at row k, which enters the queue and raises the count
abbrev pub queued : Flags → Walk → ℕ → Walk
queued m s k = change s k (join m (flags_at s k)) (place s.rows k s.queue) (s.count + 1)

-- add to the queue: look up, and push a row that is found
pub data Add (src : Source) (m : Flags) (i : ObjectId) (s : Walk) : Res → Type 0 where
  enters : {k : ℕ} {s' : Walk} → Lookup src s i (found k s') → Add src m i s (ok (queued m s' k))
  passes : Lookup src s i nothing → Add src m i s (ok s)
  denies : {d : Denial} → Lookup src s i (denied d) → Add src m i s (no d (stop s))

-- the same, unless the id has a row with SEEN
pub data AddUnseen (src : Source) (m : Flags) (i : ObjectId) (s : Walk) : Res → Type 0 where
  skips : sees s i ≡ true → AddUnseen src m i s (ok s)
  pushes : {out : Res} → sees s i ≡ false → Add src m i s out → AddUnseen src m i s out

-- COMMON set at row k
abbrev pub shared : Walk → ℕ → Walk
shared s k = change s k (join COMMON (flags_at s k)) s.queue s.count

-- row k drawn from the marking queue: the count falls unless the row is POPPED
abbrev pub falls : Flags → ℕ
falls f = cond f.popped 0 1

abbrev pub relieved : Walk → ℕ → Walk
relieved s k = recount s (s.count - falls (flags_at s k))

-- a row of the marking queue; skipping has no use for its generation
abbrev pub at_row : ℕ → Step
at_row k = record { row = k; generation = 0 }

-- Marking: draw from the marking queue until it is empty. Only rows are read: a parent without a row is passed over. `ps` are the parents of a drawn row that are still to be read
pub data Spread : List ObjectId → Marks → Walk → Walk → Type 0 where
  finished : {s : Walk} → Spread [] [] s s
  draw : {e : Entry Step} {q : Marks} {s t : Walk} → Spread (row s e.value.row).parents q (relieved s e.value.row) t → Spread [] (e ∷ q) s t
  lacks : {p : ObjectId} {ps : List ObjectId} {q : Marks} {s t : Walk} → find p s.rows ≡ none → Spread ps q s t → Spread (p ∷ ps) q s t
  had : {p : ObjectId} {k : ℕ} {ps : List ObjectId} {q : Marks} {s t : Walk} → find p s.rows ≡ some k → (flags_at s k).common ≡ true → Spread ps q s t → Spread (p ∷ ps) q s t
  unseen : {p : ObjectId} {k : ℕ} {ps : List ObjectId} {q : Marks} {s t : Walk} → find p s.rows ≡ some k → (flags_at s k).common ≡ false → (flags_at s k).seen ≡ false
      → Spread ps q (shared s k) t → Spread (p ∷ ps) q s t
  gains : {p : ObjectId} {k : ℕ} {ps : List ObjectId} {q : Marks} {s t : Walk} → find p s.rows ≡ some k → (flags_at s k).common ≡ false → (flags_at s k).seen ≡ true
      → Spread ps (place_mark s.rows (at_row k) q) (shared s k) t → Spread (p ∷ ps) q s t

-- the row k alone waits to be marked from
abbrev pub alone : Walk → ℕ → Marks
alone s k = record { date = (row s k).date; value = at_row k } ∷ []

pub data Mark (src : Source) (i : ObjectId) (s : Walk) : Res → Type 0 where
  gone : Lookup src s i nothing → Mark src i s (ok s)
  barred : {d : Denial} → Lookup src s i (denied d) → Mark src i s (no d (stop s))
  already : {k : ℕ} {s' : Walk} → Lookup src s i (found k s') → (flags_at s' k).common ≡ true → Mark src i s (ok s')
  spreads : {k : ℕ} {s' t : Walk} → Lookup src s i (found k s') → (flags_at s' k).common ≡ false → Spread [] (alone s' k) (shared s' k) t → Mark src i s (ok t)

-- the pair of skip numbers that a drawn row hands to each parent: one step less to go, or both grown by a half, held at 65,535
abbrev pub grown : ℕ → ℕ
grown o = min 65535 (o * 3 / 2 + 1)

abbrev pub new_original : ℕ → ℕ → ℕ
new_original o zero = grown o
new_original o (suc t) = o

abbrev pub new_ttl : ℕ → ℕ → ℕ
new_ttl o zero = grown o
new_ttl o (suc t) = t

-- the pair written at row k, where the row's original is smaller
abbrev pub numbered : ℕ → ℕ → Walk → ℕ → Walk
numbered o t s k = cond (nat_lt (row s k).original (new_original o t)) (put s k (renumber (row s k) (new_original o t) (new_ttl o t)) s.queue s.count) s

-- whether an id has a row with SEEN and POPPED; only rows are read
abbrev pub pops_at : Walk → Option ℕ → Bool
pops_at s none = false
pops_at s (some k) = (flags_at s k).seen && (flags_at s k).popped

abbrev pub pops : Walk → ObjectId → Bool
pops s i = pops_at s (find i s.rows)

-- whether a drawn row passes COMMON on
abbrev pub shares : Flags → Bool
shares f = f.common || f.advertised

-- Push parent, for the drawn row r as it was drawn: whether it pushed, and how it ends
pub data PushParent (src : Source) (r : Row) (p : ObjectId) (s : Walk) : Bool → Res → Type 0 where
  popped : pops s p ≡ true → PushParent src r p s false (ok s)
  stuck : {d : Denial} {s' : Walk} → pops s p ≡ false → AddUnseen src SEEN p s (no d s') → PushParent src r p s false (no d s')
  halted : {d : Denial} {s' s'' : Walk} → pops s p ≡ false → AddUnseen src SEEN p s (ok s') → shares r.flags ≡ true → Mark src p s' (no d s'') → PushParent src r p s false (no d s'')
  marked : {s' s'' : Walk} → pops s p ≡ false → AddUnseen src SEEN p s (ok s') → shares r.flags ≡ true → Mark src p s' (ok s'') → PushParent src r p s true (ok s'')
  lost : {s' : Walk} → pops s p ≡ false → AddUnseen src SEEN p s (ok s') → shares r.flags ≡ false → find p s'.rows ≡ none → PushParent src r p s false (no denial.MissingParent (stop s'))
  hands : {k : ℕ} {s' : Walk} → pops s p ≡ false → AddUnseen src SEEN p s (ok s') → shares r.flags ≡ false → find p s'.rows ≡ some k
      → PushParent src r p s true (ok (numbered r.original r.ttl s' k))

-- all parents in order: whether one was pushed
pub data Hand (src : Source) (r : Row) : List ObjectId → Walk → Bool → Res → Type 0 where
  over : {s : Walk} → Hand src r [] s false (ok s)
  stuck : {p : ObjectId} {ps : List ObjectId} {s : Walk} {b : Bool} {d : Denial} {s' : Walk} → PushParent src r p s b (no d s') → Hand src r (p ∷ ps) s false (no d s')
  on : {p : ObjectId} {ps : List ObjectId} {s : Walk} {b c : Bool} {s' : Walk} {out : Res} → PushParent src r p s b (ok s') → Hand src r ps s' c out → Hand src r (p ∷ ps) s (b || c) out

-- a row is offered, where it lacks COMMON, if its ttl is zero or no parent was pushed
abbrev pub offers : Row → Bool → Bool
offers r pushed = not r.flags.common && (r.ttl == 0 || not pushed)

pub data Next (src : Source) : Walk → Reply → Walk → Type 0 where
  empty : {s : Walk} → s.queue ≡ [] → Next src s NoneLeft s
  spent : {s : Walk} {e : Entry ℕ} {q : Waits} → s.queue ≡ e ∷ q → s.count ≡ 0 → Next src s NoneLeft (drawn s q)
  answers : {s : Walk} {e : Entry ℕ} {q : Waits} {b : Bool} {s' : Walk} → s.queue ≡ e ∷ q → 0 < s.count
      → Hand src (row s e.value) (row s e.value).parents (taken s e.value q) b (ok s') → offers (row s e.value) b ≡ true → Next src s (Have e.value) s'
  goes_on : {s : Walk} {e : Entry ℕ} {q : Waits} {b : Bool} {s' : Walk} {a : Reply} {s'' : Walk} → s.queue ≡ e ∷ q → 0 < s.count
      → Hand src (row s e.value) (row s e.value).parents (taken s e.value q) b (ok s') → offers (row s e.value) b ≡ false → Next src s' a s'' → Next src s a s''
  stops : {s : Walk} {e : Entry ℕ} {q : Waits} {b : Bool} {d : Denial} {s' : Walk} → s.queue ≡ e ∷ q → 0 < s.count
      → Hand src (row s e.value) (row s e.value).parents (taken s e.value q) b (no d s') → Next src s (Denied d) s'

-- a call on a walk that is not stopped
pub data Ran (src : Source) (s : Walk) : Call → Reply → Walk → Type 0 where
  tip_ok : {i : ObjectId} {s' : Walk} → AddUnseen src SEEN i s (ok s') → Ran src s (AddTip i) Done s'
  tip_no : {i : ObjectId} {d : Denial} {s' : Walk} → AddUnseen src SEEN i s (no d s') → Ran src s (AddTip i) (Denied d) s'
  known_ok : {i : ObjectId} {s' : Walk} → AddUnseen src ADVERTISED_AND_SEEN i s (ok s') → Ran src s (KnownCommon i) Done s'
  known_no : {i : ObjectId} {d : Denial} {s' : Walk} → AddUnseen src ADVERTISED_AND_SEEN i s (no d s') → Ran src s (KnownCommon i) (Denied d) s'
  ack_unseen : {i : ObjectId} → sees s i ≡ false → Ran src s (InCommonWithRemote i) (Denied denial.NotSeen) s
  ack_no : {i : ObjectId} {d : Denial} {s' : Walk} → sees s i ≡ true → Mark src i s (no d s') → Ran src s (InCommonWithRemote i) (Denied d) s'
  ack_ok : {i : ObjectId} {s' : Walk} → sees s i ≡ true → Mark src i s (ok s') → Ran src s (InCommonWithRemote i) (Told (common_at s (find i s.rows))) s'
  notes : {r : Remark} {i : ObjectId} {a : Reply} {s' : Walk} → Noted src s r i a s' → Ran src s (Note i r) a s'
  next_have : {a : Reply} {s' : Walk} → Next src s a s' → Ran src s NextHave a s'
