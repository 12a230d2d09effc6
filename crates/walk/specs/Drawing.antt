-- What a draw takes.
use Rattle.std.specs.Prelude.{◌≡◌, ℕ, ◌<◌, ◌⊎◌, [], ◌∷◌, Some, None, Option}
use Rattle.queue.specs.declared.entry.Entry.{Entry}
use Rattle.model.specs.Book.{Waits, Walk, row, drawn}
use Rattle.model.specs.Steps.{taken}
use Rattle.walk.specs.View.{HasMetadata}
use Rattle.walk.specs.declared.state.drawing.Drawn.{Drawn}

-- nothing waits, or the count is zero and the entry is lost
abbrev pub DrewNone : Walk → Walk → Type 0
DrewNone s t = ((s.queue ≡ []) × (t ≡ s)) ⊎ ((e : Entry ℕ) × (q : Waits) × (s.queue ≡ e ∷ q) × (s.count ≡ 0) × (t ≡ drawn s q))

-- the first row that waits was drawn, had these skip numbers and flags, and is POPPED
pub record Popped (s : Walk) (d : Drawn) (t : Walk) : Type 0 where
  pub entry : Entry ℕ
  pub rest : Waits
  pub waited : s.queue ≡ entry ∷ rest
  pub value : entry.value ≡ d.row
  pub counted : 0 < s.count
  pub had : HasMetadata (row s d.row) d.had
  pub is : t ≡ taken s d.row rest

abbrev pub DrewRow : Walk → Option Drawn → Walk → Type 0
DrewRow s None t = DrewNone s t
DrewRow s (Some d) t = Popped s d t
