use Rattle.std.proofs.Common.{take, vec_items}
use Rattle.negotiate.proofs.Records.{Partly}
use Rattle.negotiate.proofs.recording.recorded.Given as goal

abbrev pub invariant-loop-call : goal.invariant-loop-call
invariant-loop-call g l =
    Partly g.N.Negotiator.ALGORITHM (g.S.Source.meaning l.source) (g.N.Negotiator.walk l.initial.walk) (take l.call-index l.calls) (vec_items l.events) (g.N.Negotiator.walk l.walk)
