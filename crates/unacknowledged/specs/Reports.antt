-- What is promised of a run, of every negotiator and of consecutive.
use Rattle.std.specs.Prelude.{◌≡◌, ℕ, ◌⊎◌, List, [], ◌∷◌, map, length, Some, None, Ok, Err, Option, Result, vec_items, count_by}
use Rattle.source.specs.declared.ObjectId.{ObjectId}
use Rattle.model.specs.declared.Algorithm.{Algorithm}
use Rattle.model.specs.declared.Algorithm.TheVariants.{Consecutive}
use Rattle.model.specs.declared.Call.{Call}
use Rattle.model.specs.declared.Event.{Event}
use Rattle.model.specs.Book.{Row, Walk, row, Source}
use Rattle.model.specs.Past.{In, Tip, Acked, Answered, Reach, Covered}
use Rattle.negotiate.specs.Records.{Recorded}
use Rattle.unacknowledged.specs.declared.Commit.{Commit}
use Rattle.unacknowledged.specs.declared.Missing.{Missing}
use Rattle.unacknowledged.specs.declared.NoList.{NoList}
use Rattle.unacknowledged.specs.declared.NoList.TheVariants.{Unfinished, Memory}
use Rattle.unacknowledged.specs.declared.SwapList.{SwapList}
use Rattle.unacknowledged.specs.Judging.{Standing, standing_of}
use Rattle.unacknowledged.specs.Listing.{listed, is_have, is_ack}

-- an outcome: the list with the numbers of rows, haves and acknowledgements, or what is missing
pub data Told : Type 0 where
  finished : List Commit → ℕ → ℕ → ℕ → Told
  unfinished : Missing → Told

-- the outcome of a run, unless memory ran out
abbrev pub told : Result SwapList NoList → Option Told
told (Ok l) = Some (finished (vec_items l.commits) l.rows l.haves l.acknowledgements)
told (Err (Unfinished m)) = Some (unfinished m)
told (Err (Memory e)) = None

-- only a finished run has a list
abbrev pub told_at : Standing → List Event → List Row → Told
told_at (Ok x) es rows = finished (listed es rows es) (length rows) (count_by is_have es) (count_by is_ack es)
told_at (Err m) es rows = unfinished m

abbrev pub outcome_of : List Event → List Row → Told
outcome_of es rows = told_at (standing_of es) es rows

-- the ids on a run's list
abbrev pub ids : List Event → Walk → List ObjectId
ids es t = map (λ (c : Commit). c.id) (listed es t.rows es)

-- no id stands twice
abbrev pub Distinct : List ObjectId → Type 0
Distinct [] = Unit {0}
Distinct (i ∷ is) = (In i is → ⊥) × Distinct is

-- what the list of a run says
pub record Kept (n : Algorithm) (src : Source) (es : List Event) (t : Walk) : Type 0 where
  -- each id on it was offered
  pub answered : (i : ObjectId) → In i (ids es t) → (k : ℕ) × Answered es k × ((row t k).id ≡ i)
  -- and was never acknowledged
  pub unnamed : (i : ObjectId) → In i (ids es t) → Acked es i → ⊥
  -- of consecutive: no id stands twice
  pub once : n ≡ Consecutive → Distinct (ids es t)
  -- of consecutive: where the run is finished, each commit that a tip reaches is on the list, at or behind an acknowledged one, or behind a known-common one
  pub complete : n ≡ Consecutive → standing_of es ≡ Ok tt → (x i : ObjectId) → Tip es x → Reach src x i → In i (ids es t) ⊎ Covered src es i

-- what is promised of a run from the walk s
pub record Reports (n : Algorithm) (src : Source) (s : Walk) (calls : List Call) (o : Told) : Type 0 where
  -- the calls with what they gave back, and the walk that they left
  pub events : List Event
  pub left : Walk
  pub recorded : Recorded n src s calls events left
  pub says : o ≡ outcome_of events left.rows
  pub kept : Kept n src events left
