use Rattle.std.proofs.Common.{sym, inr}
use Rattle.std.proofs.lemmas.Result.{err_from_is_err_and}
use Rattle.model.specs.declared.Algorithm.TheVariants.{Consecutive}
use Rattle.model.specs.declared.Call.TheVariants.{KnownCommon}
use Rattle.model.specs.declared.Reply.TheVariants.{Denied}
use Rattle.model.specs.Consecutive as steps
use Rattle.walk.proofs.Stopped.{refused}
use Rattle.model.proofs.Calls.{answers, known_ran}
use Rattle.consecutive.specs.Seen.{walk}
use Rattle.consecutive.proofs.calls.AlgorithmNegotiator.known_common.Goals as goal

pub returns-in_err-going : goal.returns-in_err-going
returns-in_err-going g c = let p = err_from_is_err_and c.from_residual.result c.from_residual.ensures.1 in rw (p.1, p.2) (refused _ _ _ _ _ c.in_err-going.ensures)

pub returns-then-has_seen : goal.returns-then-has_seen
returns-then-has_seen g c = answers _ _ _ _ _ _ (inr (c.in_ok-going.ensures, steps.Ran.known_seen (sym c.if-has_seen.ensures)))

pub returns-in_err-push : goal.returns-in_err-push
returns-in_err-push g c =
    let src = g.S.Source.meaning c.args.source.now in
    let s = walk c.args.self.now in
    let t = walk c.push.new.self in
    let p = err_from_is_err_and c.from_residual-in_err-push.result c.from_residual-in_err-push.ensures.1 in
    rw (p.1, p.2)
    (answers Consecutive src s t (KnownCommon c.args.id) (Denied c.in_err-push.field-0.0) (inr (c.in_ok-going.ensures, steps.Ran.known_no (sym c.if-has_seen.ensures) c.in_err-push.ensures.is)))

pub returns : goal.returns
returns g c = answers _ _ _ _ _ _ (inr (c.in_ok-going.ensures, known_ran _ _ _ _ _ c.mark_common.result (sym c.if-has_seen.ensures) c.in_ok-push.ensures.is c.mark_common.ensures.is))
