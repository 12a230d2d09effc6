-- The size of a round of haves.
use Rattle.std.specs.Prelude.{ℕ, ◌+◌, ◌*◌, ◌/◌, Bool, true, false, cond, Some, None, Ok, Err, Option, Result, nat_lt}
use Rattle.book.specs.declared.types.Denial.{Denial}
use Rattle.book.specs.declared.types.Denial.TheVariants.{WindowTooLarge}

-- over a stateless transport a round doubles below 16,384 and then grows by a tenth; else it doubles below 32 and then grows by 32
abbrev pub grown_window : Bool → ℕ → ℕ
grown_window true n = cond (nat_lt n 16384) (n * 2) (n * 11 / 10)
grown_window false n = cond (nat_lt n 32) (n * 2) (n + 32)

-- the first round has 16; a size above 1,000,000,000 is denied
abbrev pub window_of : Bool → Option ℕ → Result ℕ Denial
window_of stateless None = Ok 16
window_of stateless (Some n) = cond (nat_lt 1000000000 n) (Err WindowTooLarge) (Ok (grown_window stateless n))
