-- What a store says of an id.
use Rattle.std.specs.Prelude.{List, ℕ, ◌+◌, length, Some, None, Option, Ok, Err, Result}
use Rattle.source.specs.declared.ObjectId.{ObjectId}
use Rattle.source.specs.declared.Cause.{Cause}
use Rattle.source.specs.declared.Cause.TheVariants.{Layout}
use Rattle.source.specs.declared.Fault.{Fault}
use Rattle.source.specs.Meaning.{Meaning, absent, failing, commit}
use Rattle.commit.specs.Layout.{Reading, fits, misfits, reading_of}
use Rattle.commit.specs.Shapes.{names_of}
use Rattle.fields.specs.Pairs.{Found, Pairing, bad, good, pair_at, scan}
use Rattle.commit.specs.declared.Commit.{Commit}
use Rattle.store.specs.declared.Held.{Held}

-- a fault of the one layer that a store is
abbrev pub faulty : Cause → ℕ → Fault
faulty c p = record { cause = c; place = p; layer = 1 }

-- a text that begins at k
abbrev pub read_as : ℕ → Reading → Meaning
read_as k (fits d ps) = commit d ps
read_as k (misfits p) = failing (faulty Layout (k + p))

-- a pair
abbrev pub pair_as : Pairing → Meaning
pair_as (bad c p) = failing (faulty c p)
pair_as (good name t k e) = read_as k (reading_of t)

-- what is found in the bytes of a store
abbrev pub found_as : List ℕ → Found → Meaning
found_as bs (Ok None) = absent
found_as bs (Err m) = failing (faulty m.cause m.place)
found_as bs (Ok (Some p)) = pair_as (pair_at bs p)

-- the meaning of the bytes of a store
abbrev pub store_of : List ℕ → ObjectId → Meaning
store_of bs id = found_as bs (scan (length bs) id.bytes bs 0)

-- what a value that borrows from a store says
abbrev pub held_as : Result (Option Commit) Fault → Meaning
held_as (Ok None) = absent
held_as (Err f) = failing f
held_as (Ok (Some k)) = commit k.date (names_of k.parents.now)

-- the same of what is held
abbrev pub meant : Held → Meaning
meant h = held_as h.0
