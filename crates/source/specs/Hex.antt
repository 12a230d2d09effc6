-- Bytes in hex.
use Rattle.std.specs.Prelude.{ℕ, ◌+◌, ◌/◌, ◌%◌, cond, List, [], ◌∷◌, nat_lt, nat_eq, get_or}

-- two lower-case hex digits to a byte
abbrev pub hex_digit : ℕ → ℕ
hex_digit n = cond (nat_lt n 10) (48 + n) (87 + n)

abbrev pub hex_of : List ℕ → List ℕ
hex_of [] = []
hex_of (b ∷ bs) = hex_digit (b / 16) ∷ hex_digit (b % 16) ∷ hex_of bs

-- the digit at the half r of the byte at q: 0 is the high one
abbrev pub half : List ℕ → ℕ → ℕ → ℕ
half bs q r = cond (nat_eq r 0) (hex_digit (get_or bs q 0 / 16)) (hex_digit (get_or bs q 0 % 16))
