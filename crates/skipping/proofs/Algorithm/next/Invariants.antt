use Rattle.std.proofs.Common.{◌+◌, ◌-◌, length}
use Rattle.model.specs.declared.Reply.{Reply}
use Rattle.model.specs.Book as book
use Rattle.model.specs.Skipping.{Next}
use Rattle.model.specs.Steady.{seen_rows}
use Rattle.skipping.specs.Seen.{walk}
use Rattle.skipping.proofs.Algorithm.next.Given as goal

abbrev pub invariant-loop-turn : goal.invariant-loop-turn
invariant-loop-turn g l = (a : Reply) (t : book.Walk) → Next (g.S.Source.meaning l.source) (walk l.self) a t → Next (g.S.Source.meaning l.source) (walk l.initial.self) a t

abbrev pub decreases-loop-turn : goal.decreases-loop-turn
decreases-loop-turn g l = ((walk l.self).most_rows - seen_rows (walk l.self)) + length (walk l.self).queue
