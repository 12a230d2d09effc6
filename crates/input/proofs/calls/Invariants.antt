use Rattle.std.proofs.Common.{◌≡◌, ◌++◌, vec_items}
use Rattle.input.specs.Inputs.{calls_of}
use Rattle.input.proofs.calls.Given as goal

abbrev pub invariant-loop-field : goal.invariant-loop-field
invariant-loop-field l =
    (goal.iterator-loop-field).can_next l.field-iterator
    × (goal.iterator-loop-field).is_finite l.field-iterator
    × (vec_items l.calls ++ calls_of l.field-iterator.rest.bytes.now ≡ calls_of l.fn.fields)
