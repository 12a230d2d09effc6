use Rattle.std.proofs.Common.{◌+◌, ◌-◌, [], length}
use Rattle.model.specs.Book.{Walk}
use Rattle.model.specs.Skipping.{Spread}
use Rattle.model.specs.Steady.{Ext, common_rows}
use Rattle.skipping.specs.Seen.{walk, marks, Held}
use Rattle.skipping.proofs.Algorithm.spread.Given as goal

abbrev pub invariant-loop-step : goal.invariant-loop-step
invariant-loop-step l =
    Ext (walk l.initial.self) (walk l.self)
    × Held l.self
    × ((t : Walk) → Spread [] (marks l.self) (walk l.self) t → Spread [] (marks l.initial.self) (walk l.initial.self) t)

abbrev pub decreases-loop-step : goal.decreases-loop-step
decreases-loop-step l = ((walk l.self).most_rows - common_rows (walk l.self)) + length (marks l.self)
