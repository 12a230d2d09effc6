-- The haves that no accepted acknowledgement named.
use Rattle.std.specs.Prelude.{Bool, true, false, ◌&&◌, cond, List, [], ◌∷◌, Some, None, Option, get_or, slice_index_or}
use Rattle.std.specs.List.{list_any}
use Rattle.source.specs.declared.ObjectId.{ObjectId}
use Rattle.source.specs.Ids.{is_same_id}
use Rattle.model.specs.Book.{Row, no_row}
use Rattle.model.specs.declared.Call.{Call}
use Rattle.model.specs.declared.Call.TheVariants.{KnownCommon, AddTip, NextHave, InCommonWithRemote, Note}
use Rattle.model.specs.declared.Event.{Event}
use Rattle.model.specs.declared.Reply.{Reply}
use Rattle.model.specs.declared.Reply.TheVariants.{Done, Have, NoneLeft, Told, Denied}
use Rattle.unacknowledged.specs.declared.Commit.{Commit}

abbrev pub is_accepted : Reply → Bool
is_accepted Done = true
is_accepted (Have k) = true
is_accepted NoneLeft = true
is_accepted (Told b) = true
is_accepted (Denied d) = false

abbrev pub acks : Call → ObjectId → Bool
acks (KnownCommon j) i = false
acks (AddTip j) i = false
acks NextHave i = false
acks (InCommonWithRemote j) i = is_same_id j i
acks (Note j r) i = false

-- an accepted acknowledgement of i
abbrev pub names : ObjectId → Event → Bool
names i e = is_accepted e.gave && acks e.asked i

abbrev pub named : List Event → ObjectId → Bool
named es i = list_any (names i) es

abbrev pub commit_of : Row → Commit
commit_of r = record { id = r.id; date = r.date }

-- the commit that a reply offers
abbrev pub commit_in : List Row → Reply → Option Commit
commit_in rows Done = None
commit_in rows (Have k) = Some (commit_of (slice_index_or rows k no_row))
commit_in rows NoneLeft = None
commit_in rows (Told b) = None
commit_in rows (Denied d) = None

-- a have goes before the others, unless it is acknowledged anywhere in the run
abbrev pub offered : List Event → List Row → Reply → List Commit → List Commit
offered all rows Done more = more
offered all rows (Have k) more = cond (named all (get_or rows k no_row).id) more (commit_of (slice_index_or rows k no_row) ∷ more)
offered all rows NoneLeft more = more
offered all rows (Told b) more = more
offered all rows (Denied d) more = more

-- of these events of the run `all`, the haves that no acknowledgement names, in the order offered
abbrev pub listed : List Event → List Row → List Event → List Commit
listed all rows [] = []
listed all rows (e ∷ es) = offered all rows e.gave (listed all rows es)

abbrev pub gives_have : Reply → Bool
gives_have Done = false
gives_have (Have k) = true
gives_have NoneLeft = false
gives_have (Told b) = false
gives_have (Denied d) = false

abbrev pub asks_ack : Call → Bool
asks_ack (KnownCommon j) = false
asks_ack (AddTip j) = false
asks_ack NextHave = false
asks_ack (InCommonWithRemote j) = true
asks_ack (Note j r) = false

abbrev pub is_have : Event → Bool
is_have e = gives_have e.gave

abbrev pub is_ack : Event → Bool
is_ack e = asks_ack e.asked && is_accepted e.gave
