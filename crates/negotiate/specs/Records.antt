-- Calls recorded with what they gave back.
use Rattle.std.specs.Prelude.{◌≡◌, List, [], ◌∷◌, map}
use Rattle.model.specs.declared.Algorithm.{Algorithm}
use Rattle.model.specs.declared.Call.{Call}
use Rattle.model.specs.declared.Event.{Event}
use Rattle.model.specs.Book.{Walk, Source}
use Rattle.model.specs.Past.{does, Past}
use Rattle.model.specs.Laws.{Lawful}
use Rattle.model.specs.Walks.{Plays}

-- the events on top of a past, the latest first
abbrev pub back : List Event → List Event → List Event
back h [] = h
back h (e ∷ es) = back (e ∷ h) es

-- the calls of a run are these, and each gave back what the rules say, on the walk that the one before it left
pub record Recorded (n : Algorithm) (src : Source) (s : Walk) (calls : List Call) (es : List Event) (t : Walk) : Type 0 where
  pub asked : map (λ (e : Event). e.asked) es ≡ calls
  pub plays : Plays (does n src) s es t
  -- nothing else could be given back or left
  pub only : (fs : List Event) (u : Walk) → map (λ (e : Event). e.asked) fs ≡ calls → Plays (does n src) s fs u → (fs ≡ es) × (u ≡ t)
  -- whatever past led to the first call, the past with all of them leads to the walk that is left, and is lawful
  pub past : (h : List Event) → Past n src h s → Past n src (back h es) t
  pub lawful : (h : List Event) → Past n src h s → Lawful n src (back h es) t
