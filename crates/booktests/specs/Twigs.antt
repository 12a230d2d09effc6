-- What the tests' source says of an id.
use Rattle.std.specs.Prelude.{cond, replicate, Some, None, Ok, Err, Option, Result, ◌==◌, slice_index}
use Rattle.source.specs.declared.ObjectId.{ObjectId}
use Rattle.source.specs.declared.Fault.{Fault}
use Rattle.source.specs.Meaning.{Meaning, absent, failing, commit}
use Rattle.booktests.specs.declared.twig.Commit.{Commit}
use Rattle.booktests.specs.declared.twig.Twig.{Twig}

-- an id that begins with 0 is absent
abbrev pub told_by : Twig → ObjectId → Option (Result Commit Fault)
told_by s i = cond (slice_index i.bytes 0 == 0) None (Some s.says)

abbrev pub meant_by : Option (Result Commit Fault) → Meaning
meant_by None = absent
meant_by (Some (Err f)) = failing f
meant_by (Some (Ok c)) = commit c.date (replicate c.count c.parent)

-- any other is one and the same commit, or fails
abbrev pub says_of : Twig → ObjectId → Meaning
says_of s i = meant_by (told_by s i)
