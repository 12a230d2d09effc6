-- Pasts of a walk, and the words in which its laws are said.
use Rattle.std.specs.Prelude.{◌≡◌, ℕ, Bool, true, false, ◌&&◌, ◌||◌, ◌⊎◌, List, [], ◌∷◌, ℤ}
use Rattle.source.specs.declared.ObjectId.{ObjectId}
use Rattle.source.specs.Meaning.{commit}
use Rattle.book.specs.declared.types.Denial.TheVariants as denial
use Rattle.model.specs.declared.Algorithm.{Algorithm}
use Rattle.model.specs.declared.Algorithm.TheVariants as algorithm
use Rattle.model.specs.declared.Event.{Event}
use Rattle.model.specs.declared.Call.{Call}
use Rattle.model.specs.declared.Call.TheVariants.{KnownCommon, AddTip, NextHave, InCommonWithRemote, Note}
use Rattle.model.specs.declared.Reply.{Reply}
use Rattle.model.specs.declared.Reply.TheVariants.{Done, Have, NoneLeft, Told, Denied}
use Rattle.model.specs.Book.{Row, Walk, made, Source}
use Rattle.model.specs.Consecutive
use Rattle.model.specs.Skipping
use Rattle.model.specs.Noop

-- what a negotiator does on a walk that is not stopped
abbrev pub Doing : Type 1
Doing = Walk → Call → Reply → Walk → Type 0

abbrev pub does : Algorithm → Source → Doing
does algorithm.Noop src = Noop.Ran src
does algorithm.Consecutive src = Consecutive.Ran src
does algorithm.Skipping src = Skipping.Ran src

-- a call: denied on a stopped walk, which stays as it is, else done
abbrev pub Called : Doing → Walk → Call → Reply → Walk → Type 0
Called ran s c a t = ((s.stopped ≡ true) × (a ≡ Denied denial.Stopped) × (t ≡ s)) ⊎ ((s.stopped ≡ false) × ran s c a t)

-- A past, its latest call first, leads to a walk: a book's making, and then any calls in any order, denied ones too
pub data PastOf (ran : Doing) : List Event → Walk → Type 0 where
  begun : (n l : ℕ) → PastOf ran [] (made n l)
  denied : {h : List Event} {s : Walk} (c : Call) → PastOf ran h s → s.stopped ≡ true → PastOf ran (record { asked = c; gave = Denied denial.Stopped } ∷ h) s
  called : {h : List Event} {s : Walk} {c : Call} {a : Reply} {s' : Walk} → PastOf ran h s → s.stopped ≡ false → ran s c a s' → PastOf ran (record { asked = c; gave = a } ∷ h) s'

-- of a negotiator over a source
abbrev pub Past : Algorithm → Source → List Event → Walk → Type 0
Past n src = PastOf (does n src)

-- some element passes
abbrev pub Any : {A : Type 0} → (A → Type 0) → List A → Type 0
Any P [] = ⊥
Any P (x ∷ xs) = P x ⊎ Any P xs

abbrev pub In : {A : Type 0} → A → List A → Type 0
In x xs = Any (λ y. x ≡ y) xs

-- a call is accepted unless it is denied
abbrev pub Accepted : Reply → Type 0
Accepted Done = Unit {0}
Accepted (Have k) = Unit {0}
Accepted NoneLeft = Unit {0}
Accepted (Told b) = Unit {0}
Accepted (Denied d) = ⊥

-- the call adds the tip i, says that i is known to be common, acknowledges i
abbrev pub TipOf : Call → ObjectId → Type 0
TipOf (KnownCommon j) i = ⊥
TipOf (AddTip j) i = j ≡ i
TipOf NextHave i = ⊥
TipOf (InCommonWithRemote j) i = ⊥
TipOf (Note j r) i = ⊥

abbrev pub KnownOf : Call → ObjectId → Type 0
KnownOf (KnownCommon j) i = j ≡ i
KnownOf (AddTip j) i = ⊥
KnownOf NextHave i = ⊥
KnownOf (InCommonWithRemote j) i = ⊥
KnownOf (Note j r) i = ⊥

abbrev pub AckOf : Call → ObjectId → Type 0
AckOf (KnownCommon j) i = ⊥
AckOf (AddTip j) i = ⊥
AckOf NextHave i = ⊥
AckOf (InCommonWithRemote j) i = j ≡ i
AckOf (Note j r) i = ⊥

abbrev pub is_next : Call → Bool
is_next (KnownCommon j) = false
is_next (AddTip j) = false
is_next NextHave = true
is_next (InCommonWithRemote j) = false
is_next (Note j r) = false

-- the reply offers the row k
abbrev pub HaveOf : Reply → ℕ → Type 0
HaveOf Done k = ⊥
HaveOf (Have j) k = j ≡ k
HaveOf NoneLeft k = ⊥
HaveOf (Told b) k = ⊥
HaveOf (Denied d) k = ⊥

-- the ids of the past's accepted calls, and the rows that it answered
abbrev pub Tip : List Event → ObjectId → Type 0
Tip h i = Any (λ e. TipOf e.asked i × Accepted e.gave) h

abbrev pub Known : List Event → ObjectId → Type 0
Known h i = Any (λ e. KnownOf e.asked i × Accepted e.gave) h

abbrev pub Acked : List Event → ObjectId → Type 0
Acked h i = Any (λ e. AckOf e.asked i × Accepted e.gave) h

abbrev pub Answered : List Event → ℕ → Type 0
Answered h k = Any (λ e. HaveOf e.gave k) h

-- the source has the commit i; c is a parent of the commit b
abbrev pub Has : Source → ObjectId → Type 0
Has src i = (d : ℤ) × (ps : List ObjectId) × (src i ≡ commit d ps)

abbrev pub Parent : Source → ObjectId → ObjectId → Type 0
Parent src b c = (d : ℤ) × (ps : List ObjectId) × (src b ≡ commit d ps) × In c ps

-- zero or more parent steps through commits that the source has
pub data Reach (src : Source) (a : ObjectId) : ObjectId → Type 0 where
  at : Has src a → Reach src a a
  step : {b c : ObjectId} → Reach src a b → Parent src b c → Has src c → Reach src a c

-- one or more
abbrev pub Behind : Source → ObjectId → ObjectId → Type 0
Behind src a c = (b : ObjectId) × Reach src a b × Parent src b c × Has src c

-- at or behind an acknowledged id, or behind a known-common id
abbrev pub Covered : Source → List Event → ObjectId → Type 0
Covered src h i = ((a : ObjectId) × Acked h a × Reach src a i) ⊎ ((a : ObjectId) × Known h a × Behind src a i)

-- a seen commit has SEEN; a settled one has SEEN, and POPPED or COMMON or both
abbrev pub is_seen : Row → Bool
is_seen r = r.flags.seen

abbrev pub is_settled : Row → Bool
is_settled r = r.flags.seen && (r.flags.popped || r.flags.common)
