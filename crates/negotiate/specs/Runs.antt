-- Calls played in turn.
use Rattle.std.specs.Prelude.{◌≡◌, List, [], ◌∷◌}
use Rattle.model.specs.declared.Algorithm.{Algorithm}
use Rattle.model.specs.declared.Call.{Call}
use Rattle.model.specs.declared.Event.{Event}
use Rattle.model.specs.declared.Reply.{Reply}
use Rattle.model.specs.Book.{Walk, Source}
use Rattle.model.specs.Past.{Doing, does, Called, Past}
use Rattle.model.specs.Laws.{Lawful}

-- the calls give these replies, each on the walk that the one before it left, and lead from s to t
abbrev pub Plays : Doing → Walk → List Call → List Reply → Walk → Type 0
Plays ran s [] [] t = t ≡ s
Plays ran s [] (a ∷ rs) t = ⊥
Plays ran s (c ∷ cs) [] t = ⊥
Plays ran s (c ∷ cs) (a ∷ rs) t = (u : Walk) × Called ran s c a u × Plays ran u cs rs t

-- the calls with their replies, the latest first, on top of a past
abbrev pub onto : List Event → List Call → List Reply → List Event
onto h [] rs = h
onto h (c ∷ cs) [] = h
onto h (c ∷ cs) (a ∷ rs) = onto (record { asked = c; gave = a } ∷ h) cs rs

-- what is promised of calls that were played
pub record Played (n : Algorithm) (src : Source) (s : Walk) (cs : List Call) (rs : List Reply) (t : Walk) : Type 0 where
  -- the replies and the walk that is left are those of the rules, and there are no others
  pub steps : Plays (does n src) s cs rs t
  pub only : (bs : List Reply) (u : Walk) → Plays (does n src) s cs bs u → (bs ≡ rs) × (u ≡ t)
  -- whatever past led to the first call, the past with all of them leads to the walk that is left, and is lawful
  pub past : (h : List Event) → Past n src h s → Past n src (onto h cs rs) t
  pub lawful : (h : List Event) → Past n src h s → Lawful n src (onto h cs rs) t
