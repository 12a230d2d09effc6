use Rattle.skipping.proofs.Numbers.{written_fits}
use Rattle.skipping.proofs.Algorithm.renumber.Goals as goal

pub invariant_of-self : goal.invariant_of-self
invariant_of-self c =
    let s = c.args.self.now in
    record { fit = written_fits s.state _ c.args.row _ _ s.fit c.requires c.set_skip.ensures.quiet c.set_skip.ensures.is }
