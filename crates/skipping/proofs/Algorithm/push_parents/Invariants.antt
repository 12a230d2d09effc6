use Rattle.std.proofs.Common.{drop}
use Rattle.model.specs.SkipParts.{Handing}
use Rattle.model.specs.Steady.{Ext}
use Rattle.model.specs.View.{unpack}
use Rattle.skipping.specs.Seen.{walk, parents_at}
use Rattle.skipping.proofs.Algorithm.push_parents.Given as goal

abbrev pub invariant-loop-n : goal.invariant-loop-n
invariant-loop-n g l =
    Ext (walk l.initial.self) (walk l.self)
    × Handing (g.S.Source.meaning l.source) (unpack l.metadata.flags.bits) l.metadata.original_ttl l.metadata.ttl (parents_at l.initial.self l.row) (walk l.initial.self) l.pushed (drop l.n (parents_at l.initial.self l.row)) (walk l.self)
