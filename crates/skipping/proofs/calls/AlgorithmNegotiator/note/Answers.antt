use Rattle.model.specs.declared.Algorithm.TheVariants.{Skipping}
use Rattle.model.proofs.Calls.{answers}
use Rattle.skipping.proofs.Whole.{noted_fits}
use Rattle.skipping.proofs.calls.AlgorithmNegotiator.note.Goals as goal

pub invariant_of-self : goal.invariant_of-self
invariant_of-self g c =
    let s = c.args.self.now in
    record { fit = noted_fits (g.S.Source.meaning c.args.source.now) _ _ s.state _ _ (c.note.ensures.is Skipping) c.note.ensures.quiet s.fit }

pub returns : goal.returns
returns g c = answers _ _ _ _ _ _ (c.note.ensures.is Skipping)
