use Rattle.std.proofs.Common.{Bool, sym, subst, inr}
use Rattle.std.proofs.lemmas.Result.{err_from_is_err_and}
use Rattle.model.specs.declared.Call.TheVariants.{InCommonWithRemote}
use Rattle.model.specs.declared.Reply.TheVariants.{Told}
use Rattle.model.specs.Skipping.{Ran}
use Rattle.walk.proofs.Stopped.{refused}
use Rattle.model.proofs.Calls.{answers}
use Rattle.model.proofs.SkipMoves.{seen_there}
use Rattle.skipping.specs.Seen.{walk}
use Rattle.skipping.proofs.Whole.{known_err, known_ok}
use Rattle.skipping.proofs.calls.AlgorithmNegotiator.in_common_with_remote.Goals as goal

pub returns-in_err-going : goal.returns-in_err-going
returns-in_err-going g c = let p = err_from_is_err_and c.from_residual.result c.from_residual.ensures.1 in rw (p.1, p.2) (refused _ _ _ _ _ c.in_err-going.ensures)

pub returns-in_err-known : goal.returns-in_err-known
returns-in_err-known g c =
    let src = g.S.Source.meaning c.args.source.now in
    let s = walk c.args.self.now in
    let p = err_from_is_err_and c.from_residual-in_err-known.result c.from_residual-in_err-known.ensures.1 in
    let h = known_err _ _ _ c.in_err-known.ensures in
    answers _ _ _ _ _ _ (inr (c.in_ok-going.ensures, rw (p.1, p.2, h.1) (Ran.ack_unseen h.0)))

pub mark_common-requires : goal.mark_common-requires
mark_common-requires g c = seen_there (g.S.Source.meaning c.args.source.now) (walk c.args.self.now) c.args.id (known_ok _ _ _ c.in_ok-known.ensures).0

pub returns-in_err-mark_common : goal.returns-in_err-mark_common
returns-in_err-mark_common g c =
    let src = g.S.Source.meaning c.args.source.now in
    let s = walk c.args.self.now in
    let t = walk c.mark_common.new.self in
    let p = err_from_is_err_and c.from_residual-in_err-mark_common.result c.from_residual-in_err-mark_common.ensures.1 in
    answers _ _ _ _ _ _ (inr (
      c.in_ok-going.ensures,
      rw (p.1, p.2)
          (Ran.ack_no (known_ok _ _ _ c.in_ok-known.ensures).0 c.in_err-mark_common.ensures.is),
    ))

pub returns : goal.returns
returns g c =
    let src = g.S.Source.meaning c.args.source.now in
    let s = walk c.args.self.now in
    let t = walk c.mark_common.new.self in
    let h = known_ok _ _ _ c.in_ok-known.ensures in
    answers _ _ _ _ _ _ (inr (c.in_ok-going.ensures, subst (λ (b : Bool). Ran src s (InCommonWithRemote c.args.id) (Told b) t) (sym h.1) (Ran.ack_ok h.0 c.in_ok-mark_common.ensures.is)))
