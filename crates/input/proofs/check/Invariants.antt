use Rattle.input.proofs.Scans.{Misfits}
use Rattle.input.proofs.check.Given as goal

abbrev pub invariant-loop-field : goal.invariant-loop-field
invariant-loop-field l =
    (goal.iterator-loop-field).can_next l.field-iterator
    × (goal.iterator-loop-field).is_finite l.field-iterator
    × Misfits l.fn.calls.bytes.now l.fn.calls.at l.field-iterator.rest.bytes.now l.field-iterator.rest.at
