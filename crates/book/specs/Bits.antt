-- The bits of a flag byte.
use Rattle.std.specs.Prelude.{ℕ, Bool, not, ◌==◌, bit_and}
use Rattle.book.specs.declared.types.Remark.{Remark}
use Rattle.book.specs.declared.types.Remark.TheVariants.{Complete, Alternate}

-- whether the byte `f` has a bit of `m`
abbrev pub has : ℕ → ℕ → Bool
has f m = not (bit_and f m == 0)

-- the bit that a remark sets
abbrev pub bit_of : Remark → ℕ
bit_of Complete = 1
bit_of Alternate = 2
