use Rattle.negotiate.proofs.Records.{partly_none, partly_more, recorded_all}
use Rattle.negotiate.proofs.recording.recorded.Goals as goal

pub loop-call-init : goal.loop-call-init
loop-call-init g c = partly_none _ _ _ _ c.in_ok-events.ensures.items

pub loop-call-preserved : goal.loop-call-preserved
loop-call-preserved g c = partly_more _ _ _ _ _ _ _ _ _ _ _ c.loop-call-test.true c.loop-call.invariant c.make-gave.ensures c.in_ok-push.ensures.items

pub returns : goal.returns
returns g c = recorded_all _ _ _ _ _ _ _ c.loop-call-test.false c.loop-call.invariant
