-- Whether a call is accepted, and one that is refused.
use Rattle.std.proofs.Common.{Ok, Err, Result, refl, ap, inl, inr}
use Rattle.book.specs.declared.types.Denial.{Denial}
use Rattle.model.specs.declared.Algorithm.{Algorithm}
use Rattle.model.specs.declared.Call.{Call}
use Rattle.model.specs.declared.Reply.{Reply}
use Rattle.model.specs.declared.Reply.TheVariants.{Done, Denied}
use Rattle.model.specs.Book.{Source, Walk}
use Rattle.model.specs.Past.{does}
use Rattle.model.specs.Parts.{dones}
use Rattle.model.specs.Laws.{Answers}
use Rattle.model.proofs.Calls.{answers}
use Rattle.walk.specs.View.{Going}

pub refused : (n : Algorithm) (src : Source) (s : Walk) (c : Call) (d : Denial) → Going s (Err d) → Answers n src s c (Denied d) s
refused n src s c d h = answers n src s s c (Denied d) (inl (h.0, ap {B = Reply} Denied h.1, refl))

-- a call that asks that and nothing more
pub asked : (n : Algorithm) (src : Source) (s : Walk) (c : Call) (r : Result (Unit {0}) Denial) → Going s r → does n src s c Done s → Answers n src s c (dones r) s
asked n src s c (Ok x) h d = answers n src s s c Done (inr (h, d))
asked n src s c (Err e) h d = refused n src s c e h
