use Rattle.std.proofs.lemmas.Result.{err_from_is_err_and}
use Rattle.model.proofs.Good.{ext_trans}
use Rattle.model.proofs.Moves.{pass_one_stuck, pass_one_plain, pass_one_marked}
use Rattle.consecutive.specs.Seen.{walk}
use Rattle.consecutive.proofs.Algorithm.pass_one.Goals as goal

pub returns-in_err-push_unseen : goal.returns-in_err-push_unseen
returns-in_err-push_unseen g c =
    let src = g.S.Source.meaning c.args.source.now in
    let w = walk c.args.self.now in
    let v = walk c.push_unseen.new.self in
    let p = err_from_is_err_and c.from_residual.result c.from_residual.ensures.1 in
    record {
      is = rw (p.1, p.2) (pass_one_stuck src c.args.both c.args.id w v _ c.in_err-push_unseen.ensures.is);
      grows = c.push_unseen.ensures.grows;
    }

pub returns-then-both : goal.returns-then-both
returns-then-both g c =
    let src = g.S.Source.meaning c.args.source.now in
    let w = walk c.args.self.now in
    let v = walk c.push_unseen.new.self in
    let z = walk c.mark_common.new.self in
    record {
      is = pass_one_marked src c.args.both c.args.id w v z c.mark_common.result c.if-both.true c.in_ok-push_unseen.ensures.is c.mark_common.ensures.is;
      grows = ext_trans w v z c.push_unseen.ensures.grows c.mark_common.ensures.grows;
    }

pub returns : goal.returns
returns g c =
    let src = g.S.Source.meaning c.args.source.now in
    record { is = pass_one_plain src c.args.both c.args.id (walk c.args.self.now) (walk c.push_unseen.new.self) c.if-both.false c.in_ok-push_unseen.ensures.is; grows = c.push_unseen.ensures.grows }
