use Rattle.std.proofs.Common.{◌<◌, length, refl, arith}
use Rattle.model.proofs.Every.{every_past_lawful}
use Rattle.negotiate.proofs.Plays.{played_none, played_next, rest_next}
use Rattle.negotiate.proofs.play.play.Goals as goal

pub loop-i-init : goal.loop-i-init
loop-i-init g c = (played_none every_past_lawful _ _ _, refl)

pub loop-i-preserved : goal.loop-i-preserved
loop-i-preserved g c =
    let calls : c.loop-i.i < length c.args.calls.now = omega arith in
    let replies : c.loop-i.i < length c.loop-i.replies = omega arith in
    (played_next _ _ _ _ _ _ _ _ _ _ calls replies c.loop-i.invariant.0 c.make.ensures, rest_next _ _ _ _ replies c.loop-i.auto.replies c.loop-i.invariant.1)
