-- Worked walks, as theorems of the steps.
use Rattle.std.specs.Prelude.{◌≡◌, ℕ, true, false, cond, List, [], ◌∷◌, map, pos, negsuc}
use Rattle.source.specs.declared.ObjectId.{ObjectId}
use Rattle.source.specs.Ids.{is_same_id}
use Rattle.source.specs.Meaning.{Meaning, absent, commit}
use Rattle.book.specs.declared.types.Denial.TheVariants as denial
use Rattle.book.specs.declared.types.Remark.TheVariants as remark
use Rattle.queue.specs.declared.entry.Entry.{Entry}
use Rattle.model.specs.declared.Algorithm.{Algorithm}
use Rattle.model.specs.declared.Algorithm.TheVariants.{Noop, Consecutive, Skipping}
use Rattle.model.specs.declared.Event.{Event}
use Rattle.model.specs.declared.Call.{Call}
use Rattle.model.specs.declared.Call.TheVariants.{KnownCommon, AddTip, NextHave, InCommonWithRemote, Note}
use Rattle.model.specs.declared.Reply.{Reply}
use Rattle.model.specs.declared.Reply.TheVariants.{Done, Have, NoneLeft, Told, Denied}
use Rattle.model.specs.Book.{Flags, SEEN, COMMON, POPPED, COMMON_AND_SEEN, COMMON_REF_AND_SEEN, ADVERTISED_AND_SEEN, COMPLETE, ALTERNATE, join, Row, Walk, made, row, Source}
use Rattle.model.specs.Past.{Doing, does, Called}

-- the calls give these replies, each on the walk that the one before it left, and lead from s to t
abbrev pub Plays : Doing → Walk → List Event → Walk → Type 0
Plays ran s [] t = t ≡ s
Plays ran s (e ∷ es) t = (u : Walk) × Called ran s e.asked e.gave u × Plays ran u es t

-- of a book of so many rows, with links enough; what is left is as P says
pub record Gives (n : Algorithm) (src : Source) (rows : ℕ) (es : List Event) (P : Walk → Type 0) : Type 0 where
  pub left : Walk
  pub plays : Plays (does n src) (made rows 20) es left
  pub holds : P left

-- a call and what it gives back
infix 20 ◌gives◌
abbrev pub ◌gives◌ : Call → Reply → Event
◌gives◌ c a = record { asked = c; gave = a }

-- a commit's id
abbrev pub at : ℕ → ObjectId
at k = record { bytes = k ∷ [] }

-- what is left: the rows' commits and flags, the rows that wait in draw order, the count
pub record Left (t : Walk) (commits : List ℕ) (flags : List Flags) (waits : List ℕ) (count : ℕ) : Type 0 where
  pub ids : map (λ (r : Row). r.id) t.rows ≡ map at commits
  pub flagged : map (λ (r : Row). r.flags) t.rows ≡ flags
  pub waiting : map (λ (e : Entry ℕ). e.value) t.queue ≡ waits
  pub counted : t.count ≡ count

-- flags of rows that were drawn
abbrev pub DRAWN : Flags
DRAWN = join POPPED SEEN

abbrev pub DRAWN_AND_COMMON : Flags
DRAWN_AND_COMMON = join COMMON DRAWN

abbrev pub DRAWN_AND_REF : Flags
DRAWN_AND_REF = join POPPED COMMON_REF_AND_SEEN

-- a commit with its date and parents, else what else says
abbrev pub is : ObjectId → ℕ → Meaning → Meaning → Meaning
is i k m else = cond (is_same_id i (at k)) m else

-- a chain dated 7 down to 1: each commit is named by its date, and is the child of the next
abbrev pub chain : Source
chain i = is i 7 (commit (pos 7) (at 6 ∷ [])) (is i 6 (commit (pos 6) (at 5 ∷ [])) (is i 5 (commit (pos 5) (at 4 ∷ [])) (is i 4 (commit (pos 4) (at 3 ∷ [])) (is i 3 (commit (pos 3) (at 2 ∷ [])) (is i 2 (commit (pos 2) (at 1 ∷ [])) (is i 1 (commit (pos 1) []) absent))))))

-- consecutive, tip 3: answers 3, 2, 1, none
abbrev pub WalkChain : Type 0
WalkChain = Gives Consecutive chain 10 ((AddTip (at 3) gives Done) ∷ (NextHave gives Have 0) ∷ (NextHave gives Have 1) ∷ (NextHave gives Have 2) ∷ (NextHave gives NoneLeft) ∷ [])
    (λ t. Left t (3 ∷ 2 ∷ 1 ∷ []) (DRAWN ∷ DRAWN ∷ DRAWN ∷ []) [] 0)

-- consecutive: after 3 and 2, 2 is acknowledged; the count is zero while 1 waits, and the none loses 1, without POPPED
abbrev pub WalkWaits : Type 0
WalkWaits = Gives Consecutive chain 10 ((AddTip (at 3) gives Done) ∷ (NextHave gives Have 0) ∷ (NextHave gives Have 1) ∷ (InCommonWithRemote (at 2) gives Told false) ∷ [])
    (λ t. Left t (3 ∷ 2 ∷ 1 ∷ []) (DRAWN ∷ DRAWN_AND_COMMON ∷ COMMON_AND_SEEN ∷ []) (2 ∷ []) 0)

abbrev pub WalkLost : Type 0
WalkLost = Gives Consecutive chain 10 ((AddTip (at 3) gives Done) ∷ (NextHave gives Have 0) ∷ (NextHave gives Have 1) ∷ (InCommonWithRemote (at 2) gives Told false) ∷ (NextHave gives NoneLeft) ∷ [])
    (λ t. Left t (3 ∷ 2 ∷ 1 ∷ []) (DRAWN ∷ DRAWN_AND_COMMON ∷ COMMON_AND_SEEN ∷ []) [] 0)

-- consecutive, 2 known to be common, tip 3: answers 3, 2, none
abbrev pub WalkKnown : Type 0
WalkKnown = Gives Consecutive chain 10 ((KnownCommon (at 2) gives Done) ∷ (AddTip (at 3) gives Done) ∷ (NextHave gives Have 2) ∷ (NextHave gives Have 0) ∷ (NextHave gives NoneLeft) ∷ [])
    (λ t. Left t (2 ∷ 1 ∷ 3 ∷ []) (DRAWN_AND_REF ∷ COMMON_AND_SEEN ∷ DRAWN ∷ []) [] 0)

-- a merge 4 of 3 and 2, both over 1
abbrev pub merge : Source
merge i = is i 4 (commit (pos 4) (at 3 ∷ at 2 ∷ [])) (is i 3 (commit (pos 3) (at 1 ∷ [])) (is i 2 (commit (pos 2) (at 1 ∷ [])) (is i 1 (commit (pos 1) []) absent)))

-- consecutive, tip 4: answers 4, 3, 2, 1, none
abbrev pub WalkMerge : Type 0
WalkMerge = Gives Consecutive merge 10 ((AddTip (at 4) gives Done) ∷ (NextHave gives Have 0) ∷ (NextHave gives Have 1) ∷ (NextHave gives Have 2) ∷ (NextHave gives Have 3) ∷ (NextHave gives NoneLeft) ∷ [])
    (λ t. Left t (4 ∷ 3 ∷ 2 ∷ 1 ∷ []) (DRAWN ∷ DRAWN ∷ DRAWN ∷ DRAWN ∷ []) [] 0)

-- consecutive with two rows, tip 3: answers 3, then all rows are taken, with 2 POPPED, then the walk is stopped
abbrev pub WalkFull : Type 0
WalkFull = Gives Consecutive chain 2 ((AddTip (at 3) gives Done) ∷ (NextHave gives Have 0) ∷ (NextHave gives Denied denial.RowsFull) ∷ (NextHave gives Denied denial.Stopped) ∷ [])
    (λ t. Left t (3 ∷ 2 ∷ []) (DRAWN ∷ DRAWN ∷ []) [] 0 × (t.stopped ≡ true))

-- consecutive: an acknowledged 7 makes 6 and 5 common, two generations, and 4 not
abbrev pub WalkNear : Type 0
WalkNear = Gives Consecutive chain 10 ((AddTip (at 7) gives Done) ∷ (AddTip (at 6) gives Done) ∷ (AddTip (at 5) gives Done) ∷ (AddTip (at 4) gives Done) ∷ (InCommonWithRemote (at 7) gives Told false) ∷ [])
    (λ t. Left t (7 ∷ 6 ∷ 5 ∷ 4 ∷ []) (COMMON_AND_SEEN ∷ COMMON_AND_SEEN ∷ COMMON_AND_SEEN ∷ SEEN ∷ []) (0 ∷ 1 ∷ 2 ∷ 3 ∷ []) 1)

-- the same in replies alone: a grandchild's mark reaches 2, and does not reach 1
abbrev pub WalkNearTold : Type 0
WalkNearTold = Gives Consecutive chain 10 ((AddTip (at 3) gives Done) ∷ (KnownCommon (at 4) gives Done) ∷ (InCommonWithRemote (at 2) gives Told true) ∷ [])
    (λ t. Left t (3 ∷ 4 ∷ 2 ∷ []) (COMMON_AND_SEEN ∷ COMMON_REF_AND_SEEN ∷ COMMON_AND_SEEN ∷ []) (1 ∷ 0 ∷ 2 ∷ []) 1)
    × Gives Consecutive chain 10 ((AddTip (at 3) gives Done) ∷ (NextHave gives Have 0) ∷ (KnownCommon (at 4) gives Done) ∷ (InCommonWithRemote (at 1) gives Told false) ∷ [])
    (λ t. Left t (3 ∷ 2 ∷ 4 ∷ 1 ∷ []) (DRAWN_AND_COMMON ∷ COMMON_AND_SEEN ∷ COMMON_REF_AND_SEEN ∷ COMMON_AND_SEEN ∷ []) (2 ∷ 1 ∷ 3 ∷ []) 1)

-- consecutive: the entry that a none draws is lost, so that a commit behind an acknowledged one can be offered
abbrev pub WalkLostTold : Type 0
WalkLostTold = Gives Consecutive chain 10 ((InCommonWithRemote (at 3) gives Told false) ∷ (NextHave gives NoneLeft) ∷ (AddTip (at 2) gives Done) ∷ (NextHave gives Have 1) ∷ (NextHave gives Have 2) ∷ [])
    (λ t. Left t (3 ∷ 2 ∷ 1 ∷ []) (COMMON_AND_SEEN ∷ DRAWN ∷ DRAWN ∷ []) [] 0)

-- dates before the epoch come last
abbrev pub epoch : Source
epoch i = is i 1 (commit (negsuc 0) []) (is i 2 (commit (pos 0) []) absent)

-- tips dated -1 and 0: 0 comes first
abbrev pub WalkDates : Type 0
WalkDates = Gives Consecutive epoch 10 ((AddTip (at 1) gives Done) ∷ (AddTip (at 2) gives Done) ∷ (NextHave gives Have 1) ∷ (NextHave gives Have 0) ∷ (NextHave gives NoneLeft) ∷ [])
    (λ t. Left t (1 ∷ 2 ∷ []) (DRAWN ∷ DRAWN ∷ []) [] 0)
    × Gives Skipping epoch 10 ((AddTip (at 1) gives Done) ∷ (AddTip (at 2) gives Done) ∷ (NextHave gives Have 1) ∷ (NextHave gives Have 0) ∷ (NextHave gives NoneLeft) ∷ [])
    (λ t. Left t (1 ∷ 2 ∷ []) (DRAWN ∷ DRAWN ∷ []) [] 0)

-- skipping, tip 7: answers 7, 5, 2, 1, none
abbrev pub WalkSkips : Type 0
WalkSkips = Gives Skipping chain 10 ((AddTip (at 7) gives Done) ∷ (NextHave gives Have 0) ∷ (NextHave gives Have 2) ∷ (NextHave gives Have 5) ∷ (NextHave gives Have 6) ∷ (NextHave gives NoneLeft) ∷ [])
    (λ t. Left t (7 ∷ 6 ∷ 5 ∷ 4 ∷ 3 ∷ 2 ∷ 1 ∷ []) (DRAWN ∷ DRAWN ∷ DRAWN ∷ DRAWN ∷ DRAWN ∷ DRAWN ∷ DRAWN ∷ []) [] 0)

-- skipping: the lost entry; a row without SEEN gains COMMON; marking adds no row; an acknowledgement of what was not seen is denied and stops nothing
abbrev pub WalkSkipTold : Type 0
WalkSkipTold = Gives Skipping chain 10 ((AddTip (at 2) gives Done) ∷ (InCommonWithRemote (at 2) gives Told false) ∷ (NextHave gives NoneLeft) ∷ (AddTip (at 1) gives Done) ∷ (NextHave gives Have 1) ∷ [])
    (λ t. Left t (2 ∷ 1 ∷ []) (COMMON_AND_SEEN ∷ DRAWN ∷ []) [] 0)
    × Gives Skipping chain 10 ((AddTip (at 2) gives Done) ∷ (Note (at 1) remark.Complete gives Done) ∷ (InCommonWithRemote (at 2) gives Told false) ∷ (AddTip (at 1) gives Done) ∷ (InCommonWithRemote (at 1) gives Told true) ∷ [])
    (λ t. Left t (2 ∷ 1 ∷ []) (COMMON_AND_SEEN ∷ join COMPLETE COMMON_AND_SEEN ∷ []) (0 ∷ 1 ∷ []) 1)
    × Gives Skipping chain 2 ((KnownCommon (at 3) gives Done) ∷ (NextHave gives Have 0) ∷ [])
    (λ t. Left t (3 ∷ 2 ∷ []) (join POPPED ADVERTISED_AND_SEEN ∷ COMMON_AND_SEEN ∷ []) (1 ∷ []) 0)
    × Gives Skipping chain 10 ((InCommonWithRemote (at 3) gives Denied denial.NotSeen) ∷ (AddTip (at 1) gives Done) ∷ (NextHave gives Have 0) ∷ [])
    (λ t. Left t (1 ∷ []) (DRAWN ∷ []) [] 0 × (t.stopped ≡ false))

-- parents that wait already, parents named twice, parents that are children
abbrev pub knot : Source
knot i = is i 4 (commit (pos 4) (at 3 ∷ at 2 ∷ [])) (is i 3 (commit (pos 3) (at 2 ∷ at 2 ∷ [])) (is i 2 (commit (pos 2) (at 1 ∷ [])) (is i 1 (commit (pos 1) []) absent)))

abbrev pub loop : Source
loop i = is i 1 (commit (pos 1) (at 2 ∷ [])) (is i 2 (commit (pos 2) (at 1 ∷ [])) (is i 3 (commit (pos 4) (at 4 ∷ at 5 ∷ at 4 ∷ [])) (is i 4 (commit (pos 2) (at 3 ∷ [])) (is i 5 (commit (pos 1) []) absent))))

-- skipping: numbers are written only where they are larger; a POPPED parent counts as not pushed; a drawn row is read as it was drawn; marking a POPPED row keeps the count; a count that is too high meets a full book
abbrev pub WalkPins : Type 0
WalkPins = Gives Skipping knot 10 ((AddTip (at 4) gives Done) ∷ (NextHave gives Have 0) ∷ (NextHave gives Have 3) ∷ [])
    (λ t. Left t (4 ∷ 3 ∷ 2 ∷ 1 ∷ []) (DRAWN ∷ DRAWN ∷ DRAWN ∷ DRAWN ∷ []) [] 0 × ((row t 2).original ≡ 1) × ((row t 2).ttl ≡ 1))
    × Gives Skipping loop 10 ((AddTip (at 2) gives Done) ∷ (NextHave gives Have 0) ∷ (NextHave gives Have 1) ∷ [])
    (λ t. Left t (2 ∷ 1 ∷ []) (DRAWN ∷ DRAWN ∷ []) [] 0)
    × Gives Skipping loop 10 ((KnownCommon (at 3) gives Done) ∷ (NextHave gives Have 0) ∷ [])
    (λ t. Left t (3 ∷ 4 ∷ 5 ∷ []) (join COMMON (join POPPED ADVERTISED_AND_SEEN) ∷ COMMON_AND_SEEN ∷ COMMON_AND_SEEN ∷ []) (1 ∷ 2 ∷ []) 0)
    × Gives Skipping chain 10 ((AddTip (at 1) gives Done) ∷ (NextHave gives Have 0) ∷ (KnownCommon (at 3) gives Done) ∷ (InCommonWithRemote (at 1) gives Told false) ∷ (NextHave gives Have 1) ∷ [])
    (λ t. Left t (1 ∷ 3 ∷ 2 ∷ []) (DRAWN_AND_COMMON ∷ join POPPED ADVERTISED_AND_SEEN ∷ COMMON_AND_SEEN ∷ []) (2 ∷ []) 0)
    × Gives Skipping chain 2 ((Note (at 6) remark.Complete gives Done) ∷ (AddTip (at 7) gives Done) ∷ (InCommonWithRemote (at 7) gives Told false) ∷ (AddTip (at 6) gives Done) ∷ (NextHave gives Denied denial.RowsFull) ∷ [])
    (λ t. Left t (6 ∷ 7 ∷ []) (join POPPED (join COMPLETE COMMON_AND_SEEN) ∷ DRAWN_AND_COMMON ∷ []) [] 1 × (t.stopped ≡ true))

-- 9 has the absent parent 8
abbrev pub cut : Source
cut i = is i 9 (commit (pos 9) (at 8 ∷ [])) absent

-- an absent parent: skipping is denied at a tip's, and not at a known common commit's; consecutive passes it over
abbrev pub WalkEdge : Type 0
WalkEdge = Gives Skipping cut 10 ((AddTip (at 9) gives Done) ∷ (NextHave gives Denied denial.MissingParent) ∷ (NextHave gives Denied denial.Stopped) ∷ [])
    (λ t. Left t (9 ∷ []) (DRAWN ∷ []) [] 0 × (t.stopped ≡ true))
    × Gives Skipping cut 10 ((KnownCommon (at 9) gives Done) ∷ (NextHave gives Have 0) ∷ (NextHave gives NoneLeft) ∷ [])
    (λ t. Left t (9 ∷ []) (join POPPED ADVERTISED_AND_SEEN ∷ []) [] 0 × (t.stopped ≡ false))
    × Gives Consecutive cut 10 ((AddTip (at 9) gives Done) ∷ (NextHave gives Have 0) ∷ (NextHave gives NoneLeft) ∷ [])
    (λ t. Left t (9 ∷ []) (DRAWN ∷ []) [] 0 × (t.stopped ≡ false))

-- noop: only a note adds a row
abbrev pub WalkNoop : Type 0
WalkNoop = Gives Noop chain 1 ((AddTip (at 7) gives Done) ∷ (KnownCommon (at 7) gives Done) ∷ (Note (at 3) remark.Alternate gives Done) ∷ (InCommonWithRemote (at 3) gives Told false) ∷ (NextHave gives NoneLeft) ∷ [])
    (λ t. Left t (3 ∷ []) (ALTERNATE ∷ []) [] 0)
    × Gives Noop chain 1 ((Note (at 3) remark.Complete gives Done) ∷ (Note (at 2) remark.Complete gives Denied denial.RowsFull) ∷ (NextHave gives Denied denial.Stopped) ∷ [])
    (λ t. Left t (3 ∷ []) (COMPLETE ∷ []) [] 0 × (t.stopped ≡ true))
