use Rattle.std.proofs.Common.{◌≡◌}
use Rattle.fields.proofs.Scans.{Scanned}
use Rattle.fields.proofs.find.Given as goal

abbrev pub invariant-loop-pair : goal.invariant-loop-pair
invariant-loop-pair l =
    (goal.iterator-loop-pair).can_next l.pair-iterator
    × (goal.iterator-loop-pair).is_finite l.pair-iterator
    × (l.pair-iterator.store.now ≡ l.fn.store)
    × Scanned l.fn.id.bytes l.fn.store l.pair-iterator.at
