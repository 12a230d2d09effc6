use Rattle.std.proofs.Common.{inr}
use Rattle.std.proofs.lemmas.Result.{err_from_is_err_and}
use Rattle.model.specs.Book.{SEEN}
use Rattle.walk.proofs.Stopped.{refused}
use Rattle.model.proofs.Calls.{answers}
use Rattle.model.proofs.SkipMoves.{tip_ran}
use Rattle.skipping.specs.Seen.{walk}
use Rattle.skipping.proofs.Adding.{unseen_is}
use Rattle.skipping.proofs.calls.AlgorithmNegotiator.add_tip.Goals as goal

pub returns-in_err-going : goal.returns-in_err-going
returns-in_err-going g c = let p = err_from_is_err_and c.from_residual.result c.from_residual.ensures.1 in rw (p.1, p.2) (refused _ _ _ _ _ c.in_err-going.ensures)

pub returns : goal.returns
returns g c =
    let src = g.S.Source.meaning c.args.source.now in
    let s = walk c.args.self.now in
    let t = walk c.add_unseen.new.self in
    answers _ _ _ _ _ _ (inr (c.in_ok-going.ensures, tip_ran src c.args.id s t c.add_unseen.result (unseen_is src SEEN c.args.id s c.add_unseen.result t c.add_unseen.ensures)))
