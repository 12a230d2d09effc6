-- What the parts of the skipping walk give back, as steps of the relations.
use Rattle.std.specs.Prelude.{◌≡◌, ℕ, ◌<◌, Bool, true, false, not, ◌&&◌, ◌||◌, ◌⊎◌, List, [], ◌∷◌, length, ℤ, Ok, Err, Result, ◌==◌}
use Rattle.source.specs.declared.ObjectId.{ObjectId}
use Rattle.book.specs.declared.types.Denial.{Denial}
use Rattle.queue.specs.declared.entry.Entry.{Entry}
use Rattle.model.specs.declared.Step.{Step}
use Rattle.model.specs.Book.{Flags, Row, Waits, Marks, Walk, row, flags_at, Source}
use Rattle.model.specs.Steps.{found, Lookup, Res, ok, no, taken}
use Rattle.model.specs.Skipping.{Spread, PushParent, Hand}

-- a mask with which a row without SEEN is pushed: SEEN, or that with ADVERTISED
abbrev pub Adds : ℕ → Type 0
Adds mask = (mask ≡ 8) ⊎ (mask ≡ 72)

-- the row that a lookup finds has SEEN
abbrev pub SeenIfThere : Source → Walk → ObjectId → Type 0
SeenIfThere src s i = (k : ℕ) (t : Walk) → Lookup src s i (found k t) → (flags_at t k).seen ≡ true

-- marking is done with the first parent, with the parents ps, with a drawn entry
abbrev pub SpreadOne : ObjectId → Marks → Walk → Marks → Walk → Type 0
SpreadOne p q s q' s' = (ps : List ObjectId) (t : Walk) → Spread ps q' s' t → Spread (p ∷ ps) q s t

abbrev pub SpreadAll : List ObjectId → Marks → Walk → Marks → Walk → Type 0
SpreadAll ps q s q' s' = (t : Walk) → Spread [] q' s' t → Spread ps q s t

abbrev pub Visited : Step → Marks → Walk → Marks → Walk → Type 0
Visited e q s q' s' = (date : ℤ) (t : Walk) → Spread [] q' s' t → Spread [] (record { date = date; value = e } ∷ q) s t

-- the row r has these flags and skip numbers
pub record Carries (r : Row) (f : Flags) (o l : ℕ) : Type 0 where
  pub flags : f ≡ r.flags
  pub original : o ≡ r.original
  pub ttl : l ≡ r.ttl

-- a drawn row of these flags and skip numbers is done with one parent: whether it pushed the parent, or a denial
abbrev pub Pushed : Source → Flags → ℕ → ℕ → ObjectId → Walk → Result Bool Denial → Walk → Type 0
Pushed src f o l p s (Ok b) s' = (r : Row) → Carries r f o l → PushParent src r p s b (ok s')
Pushed src f o l p s (Err d) s' = (r : Row) → Carries r f o l → PushParent src r p s false (no d s')

-- and with the parents ps: whether it pushed one
abbrev pub Handed : Source → Flags → ℕ → ℕ → List ObjectId → Walk → Result Bool Denial → Walk → Type 0
Handed src f o l ps s (Ok b) s' = (r : Row) → Carries r f o l → Hand src r ps s b (ok s')
Handed src f o l ps s (Err d) s' = (r : Row) → Carries r f o l → (b : Bool) × Hand src r ps s b (no d s')

-- some parents are done with and `pushed` says whether one was pushed: what the rest adds
abbrev pub Handing : Source → Flags → ℕ → ℕ → List ObjectId → Walk → Bool → List ObjectId → Walk → Type 0
Handing src f o l ps s pushed rest s' = (r : Row) → Carries r f o l → (c : Bool) (out : Res) → Hand src r rest s' c out → Hand src r ps s (pushed || c) out

-- whether a drawn row of these flags and this ttl is offered
abbrev pub offered : Flags → ℕ → Bool → Bool
offered f ttl pushed = not f.common && (ttl == 0 || not pushed)

-- the first row that waits was drawn, had these flags and skip numbers, and is POPPED
pub record Took (s : Walk) (k : ℕ) (f : Flags) (o l : ℕ) (t : Walk) : Type 0 where
  pub entry : Entry ℕ
  pub rest : Waits
  pub waited : s.queue ≡ entry ∷ rest
  pub value : entry.value ≡ k
  pub counted : 0 < s.count
  pub is : t ≡ taken s k rest
  pub carries : Carries (row s k) f o l
  pub inside : k < length t.rows
