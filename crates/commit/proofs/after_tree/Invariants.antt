use Rattle.std.proofs.Common.{length}
use Rattle.commit.proofs.Walks.{Sofar}
use Rattle.commit.proofs.after_tree.Given as goal

abbrev pub invariant-loop-line : goal.invariant-loop-line
invariant-loop-line l = Sofar l.lines.text.now l.lines.at l.rest.text.now l.rest.at

abbrev pub decreases-loop-line : goal.decreases-loop-line
decreases-loop-line l = length l.rest.text.now
