-- The negotiator's state as the rules see it, and what its marking keeps.
use Rattle.std.specs.Prelude.{◌≡◌, ℕ, ◌+◌, ◌≤◌, true, false, ◌⊎◌, List, ◌∷◌, length, ℤ, Some, None, Ok, Err, Option, Result}
use Rattle.source.specs.declared.ObjectId.{ObjectId}
use Rattle.book.specs.declared.types.Denial.{Denial}
use Rattle.book.specs.declared.types.Denial.TheVariants.{MissingParent}
use Rattle.model.specs.declared.Step.{Step}
use Rattle.model.specs.declared.Reply.TheVariants.{NoneLeft}
use Rattle.model.specs.Book.{Flags, Walk, Marks, Source, row, find, stop}
use Rattle.model.specs.Steps.{sees}
use Rattle.model.specs.Skipping.{Add, Next}
use Rattle.model.specs.Parts.{ended}
use Rattle.model.specs.SkipParts.{Took}
use Rattle.model.specs.View.{unpack}
use Rattle.model.specs.Steady.{SkipHeld, Ext, common_rows}
use Rattle.walk.specs.View as state
use Rattle.skipping.specs.declared.Algorithm.{Algorithm}
use Rattle.walk.specs.declared.state.drawing.Drawn.{Drawn}

abbrev pub walk : Algorithm → Walk
walk a = state.view a.state

abbrev pub marks : Algorithm → Marks
marks a = state.marks a.state

-- the rows that wait to be marked from are held by the rows with COMMON
abbrev pub Held : Algorithm → Type 0
Held a = SkipHeld (walk a) (marks a) (state.mark_numbered a.state)

-- the same, while a step that was drawn is still to be done
abbrev pub HeldWith : Algorithm → Step → Type 0
HeldWith a e = (date : ℤ) × SkipHeld (walk a) (record { date = date; value = e } ∷ marks a) (state.mark_numbered a.state)

-- what a part of a marking keeps: what waits to be marked from is held, the rows stay, and each row that came to wait gained COMMON
pub record Keeps (a b : Algorithm) : Type 0 where
  pub held : Held b
  pub grows : Ext (walk a) (walk b)
  pub pays : length (marks b) + common_rows (walk a) ≤ length (marks a) + common_rows (walk b)

abbrev pub parents_at : Algorithm → ℕ → List ObjectId
parents_at a k = (row (walk a) k).parents

-- what a draw gives: a row with what it had, which is POPPED now, or that none is left
abbrev pub Drew : Walk → Option Drawn → Walk → Type 0
Drew s None t = (src : Source) → Next src s NoneLeft t
Drew s (Some d) t = Took s d.row (unpack d.had.flags.bits) d.had.original_ttl d.had.ttl t

-- an id is passed over where it has a row with SEEN, else it is added to the queue
abbrev pub AddsUnseen : Source → Flags → ObjectId → Walk → Result (Unit {0}) Denial → Walk → Type 0
AddsUnseen src m i s r t = ((true ≡ sees s i) × (r ≡ Ok tt) × (t ≡ s)) ⊎ ((false ≡ sees s i) × Add src m i s (ended r t) × Ext s t)

-- the row that an id has, or the walk stops
abbrev pub HasRow : Walk → ObjectId → Result ℕ Denial → Walk → Type 0
HasRow s i (Ok k) t = (Some k ≡ state.row_of (find i s.rows)) × (t ≡ s)
HasRow s i (Err d) t = (d ≡ MissingParent) × (None ≡ state.row_of (find i s.rows)) × (t ≡ stop s)
