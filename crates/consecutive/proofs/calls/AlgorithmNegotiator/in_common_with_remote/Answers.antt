use Rattle.std.proofs.Common.{Bool, sym, subst, inr}
use Rattle.std.proofs.lemmas.Result.{err_from_is_err_and}
use Rattle.model.specs.declared.Algorithm.TheVariants.{Consecutive}
use Rattle.model.specs.declared.Call.TheVariants.{InCommonWithRemote}
use Rattle.model.specs.declared.Reply.TheVariants.{Told, Denied}
use Rattle.model.specs.Consecutive as steps
use Rattle.walk.proofs.Stopped.{refused}
use Rattle.model.proofs.Calls.{answers}
use Rattle.consecutive.specs.Seen.{walk}
use Rattle.consecutive.proofs.calls.AlgorithmNegotiator.in_common_with_remote.Goals as goal

pub returns-in_err-going : goal.returns-in_err-going
returns-in_err-going g c = let p = err_from_is_err_and c.from_residual.result c.from_residual.ensures.1 in rw (p.1, p.2) (refused _ _ _ _ _ c.in_err-going.ensures)

pub returns-in_err-mark_common : goal.returns-in_err-mark_common
returns-in_err-mark_common g c =
    let src = g.S.Source.meaning c.args.source.now in
    let s = walk c.args.self.now in
    let t = walk c.mark_common.new.self in
    let p = err_from_is_err_and c.from_residual-in_err-mark_common.result c.from_residual-in_err-mark_common.ensures.1 in
    rw (p.1, p.2)
    (answers Consecutive src s t (InCommonWithRemote c.args.id) (Denied c.in_err-mark_common.field-0.0) (inr (c.in_ok-going.ensures, steps.Ran.ack_no c.in_err-mark_common.ensures.is)))

pub returns : goal.returns
returns g c =
    let src = g.S.Source.meaning c.args.source.now in
    let s = walk c.args.self.now in
    let t = walk c.mark_common.new.self in
    let ran = steps.Ran.ack_ok c.in_ok-mark_common.ensures.is in
    answers Consecutive src s t (InCommonWithRemote c.args.id) (Told c.has_common-known.result) (inr (c.in_ok-going.ensures, subst (λ (b : Bool). steps.Ran src s (InCommonWithRemote c.args.id) (Told b) t) (sym c.has_common-known.ensures) ran))
