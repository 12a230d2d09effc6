-- What the parts of a marking give back, as steps of the relation.
use Rattle.std.specs.Prelude.{◌≡◌, ℕ, ◌<◌, Bool, not, List, [], ◌∷◌, length, ℤ, Some, None, Ok, Err, Option, Result}
use Rattle.source.specs.declared.ObjectId.{ObjectId}
use Rattle.book.specs.declared.types.Denial.{Denial}
use Rattle.model.specs.declared.Step.{Step}
use Rattle.model.specs.declared.Turn.{Turn}
use Rattle.queue.specs.declared.entry.Entry.{Entry}
use Rattle.model.specs.Book.{Waits, Marks, Walk, Source, flags_at, stop}
use Rattle.model.specs.Steps.{found, nothing, denied, Lookup, Res, ok, no, taken}
use Rattle.model.specs.Consecutive.{Marking, Pass, Next, passes_both}
use Rattle.model.specs.declared.Reply.{Reply}
use Rattle.model.specs.declared.Reply.TheVariants.{Done, Have, NoneLeft, Told, Denied}

-- what a lookup gives back, and the walk that it leaves
abbrev pub Looks : Source → Walk → ObjectId → Walk → Result (Option ℕ) Denial → Type 0
Looks src s i t (Ok (Some k)) = Lookup src s i (found k t)
Looks src s i t (Ok None) = Lookup src s i nothing × (t ≡ s)
Looks src s i t (Err d) = Lookup src s i (denied d) × (t ≡ stop s)

-- how a call that answers nothing ends
abbrev pub ended : Result (Unit {0}) Denial → Walk → Res
ended (Ok x) s = ok s
ended (Err d) s = no d s

-- the parents ps of a drawn row of generation g are done with, or one of them was denied
abbrev pub Spread : Source → ℕ → List ObjectId → Marks → Walk → Result (Unit {0}) Denial → Marks → Walk → Type 0
Spread src g ps q s (Ok x) q' s' = (all : Bool) (out : Res) → Marking src all g [] q' s' out → Marking src all g ps q s out
Spread src g ps q s (Err d) q' s' = (all : Bool) → Marking src all g ps q s (no d s')

-- the first parent is done with, or was denied
abbrev pub SpreadOne : Source → ℕ → ObjectId → Marks → Walk → Result (Unit {0}) Denial → Marks → Walk → Type 0
SpreadOne src g p q s (Ok x) q' s' = (all : Bool) (ps : List ObjectId) (out : Res) → Marking src all g ps q' s' out → Marking src all g (p ∷ ps) q s out
SpreadOne src g p q s (Err d) q' s' = (all : Bool) (ps : List ObjectId) → Marking src all g (p ∷ ps) q s (no d s')

-- what a drawn row passes on to its first parent
abbrev pub PassedOne : Source → Bool → ObjectId → Walk → Result (Unit {0}) Denial → Walk → Type 0
PassedOne src both p s (Ok x) s' = (ps : List ObjectId) (out : Res) → Pass src both ps s' out → Pass src both (p ∷ ps) s out
PassedOne src both p s (Err d) s' = (ps : List ObjectId) → Pass src both (p ∷ ps) s (no d s')

-- a drawn row of the marking queue is done with, or a parent of it was denied; the generation of the row before it says nothing
abbrev pub Visited : Source → Bool → Step → Marks → Walk → Result (Unit {0}) Denial → Marks → Walk → Type 0
Visited src all e q s (Ok x) q' s' = (date : ℤ) (out : Res) → ((g : ℕ) → Marking src all g [] q' s' out) → (g : ℕ) → Marking src all g [] (record { date = date; value = e } ∷ q) s out
Visited src all e q s (Err d) q' s' = (date : ℤ) (g : ℕ) → Marking src all g [] (record { date = date; value = e } ∷ q) s (no d s')

-- the first row that waits was drawn, and is POPPED
pub record Took (s : Walk) (r : Turn) (t : Walk) : Type 0 where
  pub entry : Entry ℕ
  pub rest : Waits
  pub waited : s.queue ≡ entry ∷ rest
  pub value : entry.value ≡ r.row
  pub counted : 0 < s.count
  pub is : t ≡ taken s r.row rest
  pub answers : r.answered ≡ not (flags_at s r.row).common
  pub passes : r.both ≡ passes_both (flags_at s r.row)
  pub inside : r.row < length t.rows

abbrev pub Drew : Walk → Option Turn → Walk → Type 0
Drew s None t = (src : Source) → Next src s NoneLeft t
Drew s (Some r) t = Took s r t

-- what calls answer
abbrev pub haves : Result (Option ℕ) Denial → Reply
haves (Ok None) = NoneLeft
haves (Ok (Some k)) = Have k
haves (Err d) = Denied d

abbrev pub dones : Result (Unit {0}) Denial → Reply
dones (Ok x) = Done
dones (Err d) = Denied d

abbrev pub tolds : Result Bool Denial → Reply
tolds (Ok b) = Told b
tolds (Err d) = Denied d
