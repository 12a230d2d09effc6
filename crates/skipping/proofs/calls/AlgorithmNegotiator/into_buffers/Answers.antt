use Rattle.std.proofs.Common.{arith}
use Rattle.model.specs.Steady.{SkipFit}
use Rattle.walk.proofs.Keeps.{returned}
use Rattle.skipping.proofs.calls.AlgorithmNegotiator.into_buffers.Goals as goal

pub returns : goal.returns
returns c = returned SkipFit (λ w n p m F. omega (arith, F.placed, F.marked)) c.args.self.state c.into_buffers.result c.args.self.fit c.into_buffers.ensures.rows c.into_buffers.ensures.links c.into_buffers.ensures.places
