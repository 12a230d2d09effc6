-- The walk that offers nothing.
use Rattle.std.specs.Prelude.{false}
use Rattle.source.specs.declared.ObjectId.{ObjectId}
use Rattle.book.specs.declared.types.Remark.{Remark}
use Rattle.model.specs.declared.Call.{Call}
use Rattle.model.specs.declared.Call.TheVariants.{KnownCommon, AddTip, NextHave, InCommonWithRemote, Note}
use Rattle.model.specs.declared.Reply.{Reply}
use Rattle.model.specs.declared.Reply.TheVariants.{Done, NoneLeft, Told}
use Rattle.model.specs.Book.{Walk, Source}
use Rattle.model.specs.Steps.{Noted}

-- a call on a walk that is not stopped
pub data Ran (src : Source) (s : Walk) : Call → Reply → Walk → Type 0 where
  tips : {i : ObjectId} → Ran src s (AddTip i) Done s
  knows : {i : ObjectId} → Ran src s (KnownCommon i) Done s
  acks : {i : ObjectId} → Ran src s (InCommonWithRemote i) (Told false) s
  notes : {r : Remark} {i : ObjectId} {a : Reply} {s' : Walk} → Noted src s r i a s' → Ran src s (Note i r) a s'
  next_have : Ran src s NextHave NoneLeft s
