-- What the values that borrow from a text say.
use Rattle.std.specs.Prelude.{ℕ, ◌+◌, ◌*◌, ◌/◌, List, map, length, take, drop, ℤ, Ok, Err, Result}
use Rattle.std.specs.List.{range_with_len}
use Rattle.source.specs.declared.ObjectId.{ObjectId}
use Rattle.commit.specs.declared.Misfit.{Misfit}
use Rattle.commit.specs.declared.Commit.{Commit}
use Rattle.commit.specs.Layout.{name_of, Reading, fits, misfits}

-- the name on the line k of 48 bytes, behind the word `parent` and a space
abbrev pub name_at : List ℕ → ℕ → ObjectId
name_at b k = name_of (take 40 (drop (48 * k + 7) b))

-- the names on the first n such lines
abbrev pub names_in : ℕ → List ℕ → List ObjectId
names_in n b = map (name_at b) (range_with_len 0 n)

-- the names on all of them
abbrev pub names_of : List ℕ → List ObjectId
names_of b = names_in (length b / 48) b

-- what the answer to a committer line says
abbrev pub dated : Result ℤ Misfit → Result ℤ ℕ
dated (Ok d) = Ok d
dated (Err e) = Err e.line

-- what the answer to a text says
abbrev pub said : Result Commit Misfit → Reading
said (Ok k) = fits k.date (names_of k.parents.now)
said (Err e) = misfits e.line
