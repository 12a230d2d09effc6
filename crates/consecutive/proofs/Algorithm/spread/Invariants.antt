use Rattle.std.proofs.Common.{ℕ, ◌+◌, ◌-◌, [], length}
use Rattle.model.specs.Steps.{Res}
use Rattle.model.specs.Consecutive.{Marking}
use Rattle.model.specs.Steady.{Ext, common_rows}
use Rattle.consecutive.specs.Seen.{walk, marks, Held, all}
use Rattle.consecutive.proofs.Algorithm.spread.Given as goal

abbrev pub invariant-loop-step : goal.invariant-loop-step
invariant-loop-step g l =
    Ext (walk l.initial.self) (walk l.self)
    × Held l.self 1
    × ((out : Res) → ((n : ℕ) → Marking (g.S.Source.meaning l.source) (all l.ancestors) n [] (marks l.self) (walk l.self) out)
    → (n : ℕ) → Marking (g.S.Source.meaning l.source) (all l.ancestors) n [] (marks l.initial.self) (walk l.initial.self) out)

-- each draw is paid for by a row that gains COMMON
abbrev pub decreases-loop-step : goal.decreases-loop-step
decreases-loop-step g l = ((walk l.self).most_rows - common_rows (walk l.self)) + length (marks l.self)
