use Rattle.std.proofs.Common.{arith}
use Rattle.model.specs.Steady.{Fit}
use Rattle.walk.proofs.Keeps.{returned}
use Rattle.negotiate.proofs.noop.NoopNegotiator.into_buffers.Goals as goal

pub returns : goal.returns
returns c = returned Fit (λ w n p m F. omega (arith, F.placed, F.marked)) c.args.self.state c.into_buffers.result c.args.self.fit c.into_buffers.ensures.rows c.into_buffers.ensures.links c.into_buffers.ensures.places
