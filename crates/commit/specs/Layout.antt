-- The layout of a commit's text: which texts are commits, and of which date and parents.
use Rattle.std.specs.Prelude.{ℕ, ◌+◌, ◌-◌, ◌*◌, ◌^◌, Bool, true, false, cond, ◌&&◌, ◌||◌, List, [], ◌∷◌, ◌++◌, length, ℤ, pos, neg_ℤ, Some, None, Ok, Err, codes, Option, Result, ◌==◌, nat_le, nat_lt}
use Rattle.source.specs.declared.ObjectId.{ObjectId}

-- a byte before the first of some pieces
abbrev pub onto : ℕ → List (List ℕ) → List (List ℕ)
onto b [] = []
onto b (l ∷ ls) = (b ∷ l) ∷ ls

-- the lines of a text, each without its line feed; what no line feed ends is no line
abbrev pub lines_of : List ℕ → List (List ℕ)
lines_of [] = []
lines_of (b ∷ bs) = cond (b == 10) ([] ∷ lines_of bs) (onto b (lines_of bs))

-- the words of a line, parted by one space
abbrev pub words_of : List ℕ → List (List ℕ)
words_of [] = [] ∷ []
words_of (b ∷ bs) = cond (b == 32) ([] ∷ words_of bs) (onto b (words_of bs))

-- what follows the word w at a line's start
abbrev pub behind : List ℕ → List ℕ → Option (List ℕ)
behind [] l = Some l
behind (w ∷ ws) [] = None
behind (w ∷ ws) (b ∷ bs) = cond (w == b) (behind ws bs) None

-- a lower-case hex digit
abbrev pub hexb : ℕ → Bool
hexb d = (nat_le 48 d && nat_le d 57) || (nat_le 97 d && nat_le d 102)

-- its value, and 0 of any other byte
abbrev pub hex_value : ℕ → ℕ
hex_value d = cond (nat_le 48 d && nat_le d 57) (d - 48) (cond (nat_le 97 d && nat_le d 102) (d - 87) 0)

abbrev pub all_hex : List ℕ → Bool
all_hex [] = true
all_hex (d ∷ ds) = hexb d && all_hex ds

-- two digits to a byte
abbrev pub hex_bytes : List ℕ → List ℕ
hex_bytes [] = []
hex_bytes (a ∷ []) = []
hex_bytes (a ∷ b ∷ ds) = (hex_value a * 16 + hex_value b) ∷ hex_bytes ds

-- forty lower-case hex digits
abbrev pub nameb : List ℕ → Bool
nameb ds = length ds == 40 && all_hex ds

-- the name that they write
abbrev pub name_of : List ℕ → ObjectId
name_of ds = record { bytes = hex_bytes ds }

-- the name of what follows a word, if that is forty digits
abbrev pub named : Option (List ℕ) → Option ObjectId
named None = None
named (Some ds) = cond (nameb ds) (Some (name_of ds)) None

-- a decimal digit
abbrev pub digitb : ℕ → Bool
digitb d = nat_le 48 d && nat_le d 57

abbrev pub all_digits : List ℕ → Bool
all_digits [] = true
all_digits (d ∷ ds) = digitb d && all_digits ds

-- the number that digits write behind the number n
abbrev pub number : ℕ → List ℕ → ℕ
number n [] = n
number n (d ∷ ds) = number (n * 10 + (d - 48)) ds

-- the number of 1 to 19 digits
abbrev pub amount_of : List ℕ → Option ℕ
amount_of ds = cond (nat_le 1 (length ds) && nat_le (length ds) 19) (cond (all_digits ds) (Some (number 0 ds)) None) None

-- a number as a date, if it is below 2 ^ 63
abbrev pub upward : Option ℕ → Option ℤ
upward None = None
upward (Some n) = cond (nat_lt n (2 ^ 63)) (Some (pos n)) None

-- a number with a minus as a date, if it is at most 2 ^ 63
abbrev pub downward : Option ℕ → Option ℤ
downward None = None
downward (Some n) = cond (nat_le n (2 ^ 63)) (Some (neg_ℤ (pos n))) None

-- an optional minus and a number, within 64 signed bits
abbrev pub moment_of : List ℕ → Option ℤ
moment_of [] = None
moment_of (d ∷ ds) = cond (d == 45) (downward (amount_of ds)) (upward (amount_of (d ∷ ds)))

-- a sign and four digits
abbrev pub zoneb : List ℕ → Bool
zoneb [] = false
zoneb (s ∷ ds) = (s == 43 || s == 45) && (length ds == 4 && all_digits ds)

-- the date that the last two words say
abbrev pub stamp : List (List ℕ) → Option ℤ
stamp [] = None
stamp (w ∷ []) = None
stamp (v ∷ w ∷ []) = cond (zoneb w) (moment_of v) None
stamp (u ∷ v ∷ w ∷ ws) = stamp (v ∷ w ∷ ws)

abbrev pub stamped : Option (List ℕ) → Option ℤ
stamped None = None
stamped (Some x) = stamp (words_of x)

-- a text fits, with its date and its parents in order; or misfits, at the start of the first line that fails or is missing
pub data Reading : Type 0 where
  fits : ℤ → List ObjectId → Reading
  misfits : ℕ → Reading

-- where the line behind l begins, if l begins at `at`
abbrev pub behind_line : ℕ → List ℕ → ℕ
behind_line at l = at + (length l + 1)

abbrev pub ended : ℕ → Option ℤ → Result ℤ ℕ
ended at None = Err at
ended at (Some d) = Ok d

-- the date of the committer line, or where that line misfits
abbrev pub committer_of : ℕ → List (List ℕ) → Result ℤ ℕ
committer_of at [] = Err at
committer_of at (l ∷ ls) = ended at (stamped (behind (codes "committer ") l))

abbrev pub closed : List ObjectId → Result ℤ ℕ → Reading
closed ps (Ok d) = fits d ps
closed ps (Err p) = misfits p

abbrev pub authored : ℕ → Reading → Option (List ℕ) → Reading
authored at go None = misfits at
authored at go (Some x) = go

abbrev pub fathered : Option ObjectId → (ObjectId → Reading) → Reading → Reading
fathered None more other = other
fathered (Some p) more other = more p

-- the parent lines and the author line, behind the parents ps
abbrev pub parents_of : ℕ → List ObjectId → List (List ℕ) → Reading
parents_of at ps [] = misfits at
parents_of at ps (l ∷ ls) = fathered (named (behind (codes "parent ") l)) (λ p. parents_of (behind_line at l) (ps ++ p ∷ []) ls) (authored at (closed ps (committer_of (behind_line at l) ls)) (behind (codes "author ") l))

abbrev pub planted : ℕ → Reading → Option ObjectId → Reading
planted at go None = misfits at
planted at go (Some t) = go

-- the lines of a commit's text that begins at `at`
abbrev pub commit_of : ℕ → List (List ℕ) → Reading
commit_of at [] = misfits at
commit_of at (l ∷ ls) = planted at (parents_of (behind_line at l) [] ls) (named (behind (codes "tree ") l))

-- what a text says; places are counted from its first byte
abbrev pub reading_of : List ℕ → Reading
reading_of t = commit_of 0 (lines_of t)
