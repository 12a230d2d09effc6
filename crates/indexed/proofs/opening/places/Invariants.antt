use Rattle.std.proofs.Common.{◌≡◌}
use Rattle.std.specs.BTreeMap.{get, IsOrdered}
use Rattle.source.specs.declared.ObjectId.{ObjectId}
use Rattle.indexed.specs.Places.{by_bytes}
use Rattle.indexed.proofs.Notes.{Noted}
use Rattle.indexed.proofs.opening.places.Given as goal

abbrev pub invariant-loop-pair : goal.invariant-loop-pair
invariant-loop-pair l =
    (goal.iterator-loop-pair).can_next l.pair-iterator
    × (goal.iterator-loop-pair).is_finite l.pair-iterator
    × (l.pair-iterator.store.now ≡ l.fn.store)
    × IsOrdered by_bytes l.map
    × ((q : ObjectId) → Noted l.fn.store l.pair-iterator.at q (get by_bytes l.map q))
