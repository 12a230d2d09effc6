use Rattle.model.specs.Steady.{SkipFit}
use Rattle.model.proofs.SkipFits.{looks_fit}
use Rattle.walk.specs.View.{view}
use Rattle.walk.proofs.Keeps.{fits_quiet}
use Rattle.skipping.proofs.Algorithm.lookup.Goals as goal

pub invariant_of-self : goal.invariant_of-self
invariant_of-self g c = record { fit = fits_quiet SkipFit c.args.self.now.state _ c.args.self.now.fit c.lookup.ensures.quiet (λ n p m F. looks_fit (g.S.Source.meaning c.args.source.now) (view c.args.self.now.state) c.args.id _ c.lookup.result n p m c.lookup.ensures.is F) }
