use Rattle.std.proofs.Common.{refl}
use Rattle.queue.specs.Queue.{room}
use Rattle.queue.proofs.queue.Queue.into_places.Goals as goal

pub returns : goal.returns
unfolding room
returns g c = record { places = refl; room = refl }
