-- A walk from a book's making to its last call.
use Rattle.std.specs.Prelude.{◌≡◌, ℕ, List, [], length}
use Rattle.model.specs.declared.Algorithm.{Algorithm}
use Rattle.model.specs.declared.Call.{Call}
use Rattle.model.specs.declared.Event.{Event}
use Rattle.model.specs.Book.{Source, Walk, made}
use Rattle.model.specs.Laws.{Lawful}
use Rattle.model.specs.Past.{Past}
use Rattle.negotiate.specs.Records.{Recorded, back}
use Rattle.walk.specs.Made.{most_rows}

-- the walk of a book of so many rows and links, in which nothing is taken
abbrev pub begun : ℕ → ℕ → Walk
begun rows links = made (most_rows rows rows rows) links

-- a walk under a negotiator and over a source: these calls, each with what it gave back, left this walk
pub record Whole (n : Algorithm) (src : Source) (rows links : ℕ) (calls : List Call) (events : List Event) (t : Walk) : Type 0 where
  -- one event to each call
  pub paired : length events ≡ length calls
  -- they are the calls with the rules' replies, and there are no others
  pub played : Recorded n src (begun rows links) calls events t
  -- together they are a past of the walk, and the law holds of it
  pub past : Past n src (back [] events) t
  pub lawful : Lawful n src (back [] events) t
