use Rattle.std.proofs.Common.{sym, subst}
use Rattle.model.specs.Book.{Walk}
use Rattle.model.specs.Steady.{SkipFit}
use Rattle.model.proofs.SkipFits.{stop_fit}
use Rattle.walk.proofs.Keeps.{fits_quiet}
use Rattle.skipping.specs.Seen.{walk}
use Rattle.skipping.proofs.Algorithm.parent_row.Goals as goal

pub invariant_of-self : goal.invariant_of-self
invariant_of-self c =
    let s = c.args.self.now in
    record { fit = fits_quiet SkipFit s.state _ s.fit c.stop.ensures.quiet (λ n p m F. subst (λ (w : Walk). SkipFit w n p m) (sym c.stop.ensures.is) (stop_fit (walk s) n p m F)) }
