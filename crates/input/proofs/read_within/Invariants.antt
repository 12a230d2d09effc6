use Rattle.input.proofs.Scans.{Stores}
use Rattle.input.proofs.read_within.Given as goal

abbrev pub invariant-loop-field : goal.invariant-loop-field
invariant-loop-field l =
    (goal.iterator-loop-field).can_next l.field-iterator
    × (goal.iterator-loop-field).is_finite l.field-iterator
    × Stores l.fn.bytes l.field-iterator.rest.bytes.now l.field-iterator.rest.at
