use Rattle.std.proofs.Common.{◌+◌, ◌≤◌, take}
use Rattle.std.specs.List.Sorted.{IsPermutation}
use Rattle.std.proofs.HeapSift.{Rising}
use Rattle.queue.specs.Order.{rank}
use Rattle.queue.proofs.Ranking.{order}
use Rattle.queue.proofs.heap.rise.Given as goal

abbrev pub invariant-loop-at : goal.invariant-loop-at
invariant-loop-at g l = (l.at ≤ l.initial.at) × IsPermutation (take (l.initial.at + 1) l.initial.places) (take (l.initial.at + 1) l.places) × Rising rank order l.initial.places l.initial.at l.places l.at

abbrev pub decreases-loop-at : goal.decreases-loop-at
decreases-loop-at g l = l.at
