-- Whether a run may be acted on.
use Rattle.std.specs.Prelude.{cond, List, Ok, Err, Result}
use Rattle.std.specs.List.{fold}
use Rattle.book.specs.Denials.{stops_walk}
use Rattle.model.specs.declared.Call.{Call}
use Rattle.model.specs.declared.Call.TheVariants.{KnownCommon, AddTip, NextHave, InCommonWithRemote, Note}
use Rattle.model.specs.declared.Event.{Event}
use Rattle.model.specs.declared.Reply.{Reply}
use Rattle.model.specs.declared.Reply.TheVariants.{Done, Have, NoneLeft, Told, Denied}
use Rattle.unacknowledged.specs.declared.Missing.{Missing}
use Rattle.unacknowledged.specs.declared.Missing.TheVariants.{LastNone, NoneAfterTip, Going}

-- how a run stands: finished, or what is missing
abbrev pub Standing : Type 0
Standing = Result (Unit {0}) Missing

-- a tip opens a run that was finished
abbrev pub tipped : Standing → Standing
tipped (Ok x) = Err NoneAfterTip
tipped (Err m) = Err m

-- an accepted call: a tip or a next_have moves the standing, and no other call does
abbrev pub accepted : Standing → Standing → Call → Standing
accepted s next (KnownCommon i) = s
accepted s next (AddTip i) = tipped s
accepted s next NextHave = next
accepted s next (InCommonWithRemote i) = s
accepted s next (Note i r) = s

-- a next_have that answers none finishes a run, one that offers a have does not, and a denial that stops the walk ends it
abbrev pub replied : Standing → Call → Reply → Standing
replied s c Done = accepted s (Err LastNone) c
replied s c (Have k) = accepted s (Err LastNone) c
replied s c NoneLeft = accepted s (Ok tt) c
replied s c (Told b) = accepted s (Err LastNone) c
replied s c (Denied d) = cond (stops_walk d) (Err Going) s

-- a stopped run stays so
abbrev pub after : Standing → Event → Standing
after (Ok x) e = replied (Ok x) e.asked e.gave
after (Err LastNone) e = replied (Err LastNone) e.asked e.gave
after (Err NoneAfterTip) e = replied (Err NoneAfterTip) e.asked e.gave
after (Err Going) e = Err Going

abbrev pub standing_from : Standing → List Event → Standing
standing_from s es = fold after s es

-- the standing of a run, in the order of its calls
abbrev pub standing_of : List Event → Standing
standing_of es = standing_from (Err LastNone) es
