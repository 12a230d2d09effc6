use Rattle.book.proofs.Finds.{link_of, Walked}
use Rattle.book.proofs.book.Book.find.Given as goal

abbrev pub invariant-loop-at : goal.invariant-loop-at
invariant-loop-at l = Walked l.self l.id (link_of l.at)

abbrev pub decreases-loop-at : goal.decreases-loop-at
decreases-loop-at l = link_of l.at
