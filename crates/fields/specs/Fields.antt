-- The fields of a buffer: one tag byte, two length bytes, the high one first, and that many bytes.
use Rattle.std.specs.Prelude.{◌≡◌, ℕ, ◌+◌, ◌*◌, ◌/◌, ◌%◌, ◌≤◌, List, ◌∷◌, length, take, drop, slice_index}

-- the length that the first field gives
abbrev pub long : List ℕ → ℕ
long bs = slice_index bs 1 * 256 + slice_index bs 2

-- the bytes of the first field
abbrev pub body_of : List ℕ → List ℕ
body_of bs = take (long bs) (drop 3 bs)

-- the first field whole: its tag, its bytes, and what follows it
pub record Field (bs : List ℕ) (tag : ℕ) (body rest : List ℕ) : Type 0 where
  pub within : 3 + long bs ≤ length bs
  pub tagged : tag ≡ slice_index bs 0
  pub holds : body ≡ body_of bs
  pub held : length body ≡ long bs
  pub goes : rest ≡ drop (3 + long bs) bs
  pub left : length rest + (3 + long bs) ≡ length bs

-- a field as it is written
abbrev pub written : ℕ → List ℕ → List ℕ
written tag body = tag ∷ length body / 256 ∷ length body % 256 ∷ body
