use Rattle.std.proofs.Common.{refl, arith}
use Rattle.queue.specs.Order.{many}
use Rattle.queue.specs.Queue.{waiting, room, entered}
use Rattle.queue.proofs.queue.Queue.over.Goals as goal

pub invariant_of-result : goal.invariant_of-result
unfolding many
invariant_of-result g c = record { within = omega arith; few = omega arith; heap = λ w x. absurd (omega arith); apart = λ k. omega arith; numbered = λ k d l. absurd (omega arith) }

pub returns : goal.returns
unfolding waiting room entered
returns g c = record { waits = refl; room = refl; entered = refl; places = refl }
