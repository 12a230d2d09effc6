use Rattle.skipping.proofs.Gains.{shared_fits}
use Rattle.skipping.proofs.Algorithm.make_common.Goals as goal

pub invariant_of-self : goal.invariant_of-self
invariant_of-self c = record { fit = shared_fits c.args.self.now.state _ c.args.row c.args.self.now.fit c.requires.inside c.requires.lacks c.set_flags.ensures.quiet c.set_flags.ensures.is }
