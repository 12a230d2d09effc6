-- The place of the first pair of each id.
use Rattle.std.specs.Prelude.{ℕ, Some, None, Option, Ok, Err, Result}
use Rattle.std.specs.declared.cmp.Ordering.{Ordering}
use Rattle.std.specs.Cmp.{IsTotalOrder, on_total}
use Rattle.std.specs.Cmp.Lexicographic.{slice_cmp, nat_list_cmp_total}
use Rattle.std.specs.Ordering.{nat_cmp}
use Rattle.source.specs.declared.ObjectId.{ObjectId}
use Rattle.fields.specs.declared.Misfit.{Misfit}
use Rattle.fields.specs.Pairs.{Found}

-- the order of ids, byte by byte
abbrev pub by_bytes : ObjectId → ObjectId → Ordering
by_bytes a b = slice_cmp nat_cmp a.bytes b.bytes

-- this order is total
pub by_bytes_total : IsTotalOrder by_bytes
by_bytes_total = on_total (λ x. x.bytes) nat_list_cmp_total

-- what an id is, by the place that is known of it, and by what the ids are that have none
abbrev pub known : Option ℕ → Result (Unit {0}) Misfit → Found
known None (Ok _) = Ok None
known None (Err m) = Err m
known (Some p) rest = Ok (Some p)
