-- A consecutive walk as the rules see it.
use Rattle.std.specs.Prelude.{ℕ, ◌+◌, ◌≤◌, Bool, true, false, List, length}
use Rattle.source.specs.declared.ObjectId.{ObjectId}
use Rattle.model.specs.Book.{Walk, Marks, row}
use Rattle.model.specs.Steady
use Rattle.walk.specs.View as state
use Rattle.consecutive.specs.declared.Algorithm.{Algorithm}
use Rattle.consecutive.specs.declared.marking.Mark.{Mark}
use Rattle.consecutive.specs.declared.marking.Mark.TheVariants.{AncestorsOnly, ThisCommitAndAncestors}
use Rattle.consecutive.specs.declared.marking.Ancestors.{Ancestors}
use Rattle.consecutive.specs.declared.marking.Ancestors.TheVariants.{DirectUnseen, AllUnseen}

abbrev pub walk : Algorithm → Walk
walk a = state.view a.state

abbrev pub marks : Algorithm → Marks
marks a = state.marks a.state

-- the rows that wait to be marked from are held by the rows with COMMON
abbrev pub Held : Algorithm → ℕ → Type 0
Held a more = Steady.Held (walk a) (marks a) (state.mark_numbered a.state) more

-- what a part of a marking keeps: what waits to be marked from is held, the rows stay, and each row that came to wait gained COMMON
pub record Keeps (a b : Algorithm) : Type 0 where
  pub held : Held b 0
  pub grows : Steady.Ext (walk a) (walk b)
  pub pays : length (marks b) + Steady.common_rows (walk a) ≤ length (marks a) + Steady.common_rows (walk b)

abbrev pub parents_at : Algorithm → ℕ → List ObjectId
parents_at a k = (row (walk a) k).parents

-- whether a mark sets COMMON at the commit itself
abbrev pub itself : Mark → Bool
itself AncestorsOnly = false
itself ThisCommitAndAncestors = true

-- whether it reaches all ancestors, and not only two generations
abbrev pub all : Ancestors → Bool
all DirectUnseen = false
all AllUnseen = true
