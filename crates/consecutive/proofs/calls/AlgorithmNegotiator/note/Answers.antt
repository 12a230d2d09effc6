use Rattle.model.specs.declared.Algorithm.TheVariants.{Consecutive}
use Rattle.model.specs.Steady.{Fit}
use Rattle.model.proofs.Calls.{answers}
use Rattle.walk.proofs.Keeps.{fits_quiet, note_keeps}
use Rattle.consecutive.proofs.calls.AlgorithmNegotiator.note.Goals as goal

pub invariant_of-self : goal.invariant_of-self
invariant_of-self g c = record {
  fit = fits_quiet Fit c.args.self.now.state c.note.new.self c.args.self.now.fit c.note.ensures.quiet
      (λ n p m F. note_keeps (g.S.Source.meaning c.args.source.now) _ _ c.args.id c.args.remark _ n p m (c.note.ensures.is Consecutive) F);
}

pub returns : goal.returns
returns g c = answers _ _ _ _ _ _ (c.note.ensures.is Consecutive)
