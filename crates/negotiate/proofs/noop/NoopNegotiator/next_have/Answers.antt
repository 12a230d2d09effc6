use Rattle.std.proofs.Common.{inr}
use Rattle.std.proofs.lemmas.Result.{err_from_is_err_and}
use Rattle.model.specs.Noop
use Rattle.model.proofs.Calls.{answers}
use Rattle.walk.proofs.Stopped.{refused}
use Rattle.negotiate.proofs.noop.NoopNegotiator.next_have.Goals as goal

pub returns-in_err-going : goal.returns-in_err-going
returns-in_err-going g c = let p = err_from_is_err_and c.from_residual.result c.from_residual.ensures.1 in rw (p.1, p.2) (refused _ _ _ _ _ c.in_err-going.ensures)

pub returns : goal.returns
returns g c = answers _ _ _ _ _ _ (inr (c.in_ok-going.ensures, Noop.Ran.next_have))
