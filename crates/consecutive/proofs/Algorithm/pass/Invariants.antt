use Rattle.std.proofs.Common.{drop}
use Rattle.model.specs.Steps.{Res}
use Rattle.model.specs.Consecutive.{Pass}
use Rattle.model.specs.Steady.{Ext}
use Rattle.consecutive.specs.Seen.{walk, parents_at}
use Rattle.consecutive.proofs.Algorithm.pass.Given as goal

abbrev pub invariant-loop-n : goal.invariant-loop-n
invariant-loop-n g l =
    Ext (walk l.initial.self) (walk l.self)
    × ((out : Res) → Pass (g.S.Source.meaning l.source) l.both (drop l.n (parents_at l.initial.self l.row)) (walk l.self) out
    → Pass (g.S.Source.meaning l.source) l.both (parents_at l.initial.self l.row) (walk l.initial.self) out)
