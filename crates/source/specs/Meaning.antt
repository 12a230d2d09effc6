-- What a source says of an id.
use Rattle.std.specs.Prelude.{ℕ, ◌+◌, min, List, [], length, ℤ, Some, None, Option}
use Rattle.std.specs.List.{slice_get}
use Rattle.source.specs.declared.ObjectId.{ObjectId}
use Rattle.source.specs.declared.Cause.{Cause}
use Rattle.source.specs.declared.Cause.TheVariants.{PastEnd, Misplaced, Layout}
use Rattle.source.specs.declared.Fault.{Fault}
use Rattle.source.specs.declared.Kind.{Kind}
use Rattle.source.specs.declared.Kind.TheVariants.{Absent, Failing, Commit}

-- the number of a cause
abbrev pub number_of : Cause → ℕ
number_of PastEnd = 21
number_of Misplaced = 22
number_of Layout = 23

-- an id is exactly one of these: absent; failing; a commit with its date and its parents in order
pub data Meaning : Type 0 where
  absent : Meaning
  failing : Fault → Meaning
  commit : ℤ → List ObjectId → Meaning

-- which of the three it is
abbrev pub kind_of : Meaning → Kind
kind_of absent = Absent
kind_of (failing f) = Failing
kind_of (commit d ps) = Commit

-- the fault of a failing id
abbrev pub fault_of : Meaning → Option Fault
fault_of absent = None
fault_of (failing f) = Some f
fault_of (commit d ps) = None

-- the date of a commit
abbrev pub date_of : Meaning → Option ℤ
date_of absent = None
date_of (failing f) = None
date_of (commit d ps) = Some d

-- the number of parents of a commit
abbrev pub count_of : Meaning → Option ℕ
count_of absent = None
count_of (failing f) = None
count_of (commit d ps) = Some (length ps)

-- the parents of a commit, and none of anything else
abbrev pub parents_of : Meaning → List ObjectId
parents_of absent = []
parents_of (failing f) = []
parents_of (commit d ps) = ps

-- the parent with the number n, from 0
abbrev pub parent_of : Meaning → ℕ → Option ObjectId
parent_of m n = slice_get (parents_of m) n

-- a fault of a source that lies under n layers; the layer is held at 255
abbrev pub under : ℕ → Fault → Fault
under n f = record { cause = f.cause; place = f.place; layer = min 255 (f.layer + n) }

-- the front's meaning, of n layers, or the back's where the front has none
abbrev pub over : ℕ → Meaning → Meaning → Meaning
over n absent absent = absent
over n absent (failing f) = failing (under n f)
over n absent (commit d ps) = commit d ps
over n (failing f) m = failing f
over n (commit d ps) m = commit d ps
