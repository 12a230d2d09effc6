use Rattle.std.proofs.Common.{◌≡◌, take, drop}
use Rattle.negotiate.specs.Runs.{Played}
use Rattle.negotiate.proofs.play.play.Given as goal

abbrev pub invariant-loop-i : goal.invariant-loop-i
invariant-loop-i g l =
    Played g.N.Negotiator.ALGORITHM (g.S.Source.meaning l.source) (g.N.Negotiator.walk l.initial.walk) (take l.i l.calls) (take l.i l.replies) (g.N.Negotiator.walk l.walk)
    × (drop l.i l.replies ≡ drop l.i l.initial.replies)
