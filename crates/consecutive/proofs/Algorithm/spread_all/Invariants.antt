use Rattle.std.proofs.Common.{◌+◌, ◌≤◌, Bool, length, drop}
use Rattle.model.specs.Steps.{Res}
use Rattle.model.specs.Consecutive.{Marking}
use Rattle.model.specs.Steady.{Ext, common_rows}
use Rattle.consecutive.specs.Seen.{walk, marks, parents_at, Held}
use Rattle.consecutive.proofs.Algorithm.spread_all.Given as goal

abbrev pub invariant-loop-n : goal.invariant-loop-n
invariant-loop-n g l =
    Ext (walk l.initial.self) (walk l.self)
    × Held l.self 0
    × (length (marks l.self) + common_rows (walk l.initial.self) ≤ length (marks l.initial.self) + common_rows (walk l.self))
    × ((all : Bool) (out : Res) → Marking (g.S.Source.meaning l.source) all l.generation (drop l.n (parents_at l.initial.self l.row)) (marks l.self) (walk l.self) out
    → Marking (g.S.Source.meaning l.source) all l.generation (parents_at l.initial.self l.row) (marks l.initial.self) (walk l.initial.self) out)
