use Rattle.skipping.proofs.Whole.{begun_fits}
use Rattle.skipping.proofs.calls.AlgorithmNegotiator.new.Goals as goal

pub invariant_of-result : goal.invariant_of-result
invariant_of-result c =
    let e = c.new.ensures in
    record { fit = begun_fits c.new.result _ _ _ _ e.view e.numbered.0 e.places.0 e.places.1 }
