-- The pairs of a store, each a field with an id and a field with its text, and the first pair with an id.
use Rattle.std.specs.Prelude.{◌≡◌, ℕ, zero, suc, ◌+◌, ◌<◌, ◌≤◌, cond, List, length, drop, ◌==◌, nat_lt, slice_index, Some, None, Option, Ok, Err, Result}
use Rattle.std.specs.Str.{bytes_eq}
use Rattle.source.specs.declared.Cause.{Cause}
use Rattle.source.specs.declared.Cause.TheVariants.{PastEnd, Misplaced}
use Rattle.fields.specs.Fields.{long, body_of}
use Rattle.fields.specs.declared.Misfit.{Misfit}
use Rattle.fields.specs.declared.Pair.{Pair}

-- a fault with its place; or an id, its text, the text's place and the place behind the pair
pub data Pairing : Type 0 where
  bad : Cause → ℕ → Pairing
  good : List ℕ → List ℕ → ℕ → ℕ → Pairing

-- what a value that borrows from a store says
abbrev pub paired : Result Pair Misfit → Pairing
paired (Err m) = bad m.cause m.place
paired (Ok p) = good p.id.bytes p.text.now p.place p.next

abbrev pub misfit : {A : Type 0} → Cause → ℕ → Result A Misfit
misfit c p = Err (record { cause = c; place = p })

-- the field of the text, from `at` on, behind the id `name` whose field begins at `before`
abbrev pub text_of : List ℕ → List ℕ → ℕ → ℕ → Pairing
text_of name bs before at =
    cond (length bs == 0) (bad Misplaced before)
    (cond (nat_lt (length bs) (3 + long bs)) (bad PastEnd at)
    (cond (slice_index bs 0 == 2) (good name (body_of bs) (at + 3) (at + 3 + long bs)) (bad Misplaced at)))

-- the first pair of the bytes from `at` on
abbrev pub pair_of : List ℕ → ℕ → Pairing
pair_of bs at =
    cond (nat_lt (length bs) (3 + long bs)) (bad PastEnd at)
    (cond (slice_index bs 0 == 1)
    (cond (long bs == 20) (text_of (body_of bs) (drop 23 bs) at (at + 23)) (bad Misplaced at))
    (bad Misplaced at))

-- the pair at a place of a store
abbrev pub pair_at : List ℕ → ℕ → Pairing
pair_at store at = pair_of (drop at store) at

-- a pair lies behind `at` and within the first n bytes, with its text at its end
abbrev pub Within : ℕ → ℕ → Result Pair Misfit → Type 0
Within at n (Err m) = Unit {0}
Within at n (Ok p) = (at < p.place) × (p.place + length p.text.now ≡ p.next) × (p.next ≤ n)

-- the place of a pair, if one is found; or what is wrong before it
abbrev pub Found : Type 0
Found = Result (Option ℕ) Misfit

abbrev pub go_on : (ℕ → Found) → List ℕ → ℕ → Pairing → Found
go_on more id at (bad c p) = misfit c p
go_on more id at (good name t k e) = cond (bytes_eq name id) (Ok (Some at)) (more e)

-- what a store has of an id from `at` on: its first pair, or the first fault before that; n is at least the number of bytes left
abbrev pub scan : ℕ → List ℕ → List ℕ → ℕ → Found
scan zero id store at = Ok None
scan (suc n) id store at = cond (nat_lt at (length store)) (go_on (scan n id store) id at (pair_at store at)) (Ok None)
