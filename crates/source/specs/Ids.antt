-- When two ids are the same, and the place of an id in a list.
use Rattle.std.specs.Prelude.{ℕ, ◌+◌, Bool, cond, List, [], ◌∷◌, Some, None, Option}
use Rattle.std.specs.Str.{bytes_eq}
use Rattle.source.specs.declared.ObjectId.{ObjectId}

-- whether two ids have the same bytes
abbrev pub is_same_id : ObjectId → ObjectId → Bool
is_same_id a b = bytes_eq a.bytes b.bytes

-- the place of the first id of the list that is `i`, where the list's first has place `n`
abbrev pub place : ObjectId → List ObjectId → ℕ → Option ℕ
place i [] n = None
place i (x ∷ xs) n = cond (is_same_id x i) (Some n) (place i xs (n + 1))
