use Rattle.std.proofs.Common.{◌≡◌}
use Rattle.source.specs.Meaning.{parents_of}
use Rattle.book.specs.Model.{Copied}
use Rattle.book.proofs.book.Book.copy_parents.Given as goal

abbrev pub invariant-loop-k : goal.invariant-loop-k
invariant-loop-k g l = (l.first ≡ l.initial.self.linked) × Copied l.initial.self l.self (parents_of (g.S.Source.meaning l.source l.id)) l.k
