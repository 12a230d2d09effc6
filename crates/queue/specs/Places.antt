-- The places that a queue's entries stand in.
use Rattle.std.specs.Prelude.{pos}
use Rattle.queue.specs.declared.entry.Entry.{Entry}
use Rattle.queue.specs.declared.entry.Place.{Place}

module _ {V : Type 0} where
  -- a place in which nothing was put, with the value that stands for nothing
  abbrev pub empty_place : V → Place V
  empty_place v = record { date = pos 0; order = 0; value = v }

  -- what waits in a place
  abbrev pub entry : Place V → Entry V
  entry p = record { date = p.date; value = p.value }
