use Rattle.std.proofs.Common.{◌+◌, ◌≤◌, length, drop}
use Rattle.model.specs.Book.{Walk}
use Rattle.model.specs.Skipping.{Spread}
use Rattle.model.specs.Steady.{Ext, common_rows}
use Rattle.skipping.specs.Seen.{walk, marks, parents_at, Held}
use Rattle.skipping.proofs.Algorithm.spread_all.Given as goal

abbrev pub invariant-loop-n : goal.invariant-loop-n
invariant-loop-n l =
    Ext (walk l.initial.self) (walk l.self)
    × Held l.self
    × (length (marks l.self) + common_rows (walk l.initial.self) ≤ length (marks l.initial.self) + common_rows (walk l.self))
    × ((t : Walk) → Spread (drop l.n (parents_at l.initial.self l.row)) (marks l.self) (walk l.self) t → Spread (parents_at l.initial.self l.row) (marks l.initial.self) (walk l.initial.self) t)
