use Rattle.std.proofs.Common.{arith}
use Rattle.walk.proofs.Keeps.{begun_fits}
use Rattle.negotiate.proofs.noop.NoopNegotiator.new.Goals as goal

pub invariant_of-result : goal.invariant_of-result
invariant_of-result c =
    record { fit = ∣ begun_fits c.new.result _ _ c.new.ensures.view c.new.ensures.numbered.0 (omega (arith, c.new.ensures.places.0)) (omega (arith, c.new.ensures.places.1)) (omega arith) ∣₁ }
