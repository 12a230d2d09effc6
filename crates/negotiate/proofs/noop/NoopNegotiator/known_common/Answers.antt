use Rattle.model.specs.Noop
use Rattle.walk.proofs.Stopped.{asked}
use Rattle.negotiate.proofs.noop.NoopNegotiator.known_common.Goals as goal

pub returns : goal.returns
returns g c = asked _ _ _ _ c.going.result c.going.ensures Noop.Ran.knows
