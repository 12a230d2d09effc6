use Rattle.consecutive.proofs.Admits.{common_low, common_fits}
use Rattle.consecutive.proofs.Algorithm.make_common.Goals as goal

pub lower_count-requires : goal.lower_count-requires
lower_count-requires c = common_low c.args.self.now.state _ _ c.head.result.flags.bits _ c.args.self.now.fit c.requires.inside c.requires.lacks c.head.ensures.flags c.set_flags.ensures.quiet c.set_flags.ensures.is c.unpopped.ensures

pub invariant_of-self : goal.invariant_of-self
invariant_of-self c = record { fit = common_fits c.args.self.now.state _ _ c.head.result.flags.bits _ c.args.self.now.fit c.requires.inside c.requires.lacks c.head.ensures.flags c.set_flags.ensures.quiet c.set_flags.ensures.is c.unpopped.ensures _ c.lower_count.ensures.quiet c.lower_count.ensures.is }
