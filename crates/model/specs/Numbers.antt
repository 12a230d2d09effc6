-- The negotiators' numbers and names.
use Rattle.std.specs.Prelude.{◌≡◌, ◌≢◌, ℕ, cond, List, Ok, Err, Result, codes, ◌==◌}
use Rattle.book.specs.declared.types.Denial.{Denial}
use Rattle.book.specs.declared.types.Denial.TheVariants.{UnknownName}
use Rattle.model.specs.declared.Algorithm.{Algorithm}
use Rattle.model.specs.declared.Algorithm.TheVariants.{Noop, Consecutive, Skipping}
use Rattle.model.specs.declared.UnknownNumber.{UnknownNumber}

abbrev pub number_of : Algorithm → ℕ
number_of Noop = 0
number_of Consecutive = 1
number_of Skipping = 2

-- the negotiator with a number; every number but these three is given back as unknown
abbrev pub numbered : ℕ → Result Algorithm UnknownNumber
numbered n = cond (n == 0) (Ok Noop) (cond (n == 1) (Ok Consecutive) (cond (n == 2) (Ok Skipping) (Err (record { 0 = n }))))

-- which negotiator a name stands for; every name but these four is denied
pub record Named (name : List ℕ) (r : Result Algorithm Denial) : Type 0 where
  pub noop : name ≡ codes "noop" → r ≡ Ok Noop
  pub consecutive : name ≡ codes "consecutive" → r ≡ Ok Consecutive
  pub skipping : name ≡ codes "skipping" → r ≡ Ok Skipping
  pub default : name ≡ codes "default" → r ≡ Ok Consecutive
  pub other : (name ≢ codes "noop") → (name ≢ codes "consecutive") → (name ≢ codes "skipping") → (name ≢ codes "default") → r ≡ Err UnknownName
