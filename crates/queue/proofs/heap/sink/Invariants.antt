use Rattle.std.proofs.Common.{◌-◌, take}
use Rattle.std.specs.List.Sorted.{IsPermutation}
use Rattle.std.proofs.HeapSift.{Sinking}
use Rattle.queue.specs.Order.{rank}
use Rattle.queue.proofs.Ranking.{order}
use Rattle.queue.proofs.heap.sink.Given as goal

abbrev pub invariant-loop-at : goal.invariant-loop-at
invariant-loop-at g l = IsPermutation (take l.len l.initial.places) (take l.len l.places) × Sinking rank order l.initial.places 0 l.len l.places l.at

abbrev pub decreases-loop-at : goal.decreases-loop-at
decreases-loop-at g l = l.len - l.at
