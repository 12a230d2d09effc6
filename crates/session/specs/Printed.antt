-- What a recorded walk prints.
use Rattle.std.specs.Prelude.{◌≡◌, ℕ, suc, cond, List, [], ◌∷◌, ◌++◌, Some, None, codes, decimal, Option}
use Rattle.std.specs.List.{slice_get}
use Rattle.source.specs.Hex.{hex_of}
use Rattle.book.specs.Denials
use Rattle.model.specs.declared.Algorithm.{Algorithm}
use Rattle.model.specs.declared.Call.{Call}
use Rattle.model.specs.declared.Event.{Event}
use Rattle.model.specs.declared.Reply.{Reply}
use Rattle.model.specs.declared.Reply.TheVariants.{Done, Have, NoneLeft, Told, Denied}
use Rattle.model.specs.Book.{Row, Walk, Source}
use Rattle.negotiate.specs.Numbers.{number_of}
use Rattle.store.specs.Stores.{store_of}
use Rattle.input.specs.Inputs.{Parsed, bad, walk, tag_of, calls_of}
use Rattle.session.specs.Sessions.{Whole}

abbrev pub denied : ℕ → List ℕ
denied n = codes "no " ++ decimal n

-- the id of a row, or the denial of a read where there is no such row
abbrev pub id_said : Option Row → List ℕ
id_said None = denied 9
id_said (Some r) = hex_of r.id.bytes

-- what a call gave back
abbrev pub said : List Row → Reply → List ℕ
said rows Done = codes "ok"
said rows NoneLeft = codes "none"
said rows (Told b) = cond b (codes "true") (codes "false")
said rows (Have k) = id_said (slice_get rows k)
said rows (Denied d) = denied (Denials.number_of d)

-- the line of a call: its place, its tag, and what it gave back
abbrev pub line_of : List Row → ℕ → Call → Reply → List ℕ
line_of rows n c a = decimal n ++ (32 ∷ decimal (tag_of c) ++ (32 ∷ said rows a ++ (10 ∷ [])))

-- the lines of calls with what they gave back, of which the first has the place n
abbrev pub lines_of : List Row → ℕ → List Event → List ℕ
lines_of rows n [] = []
lines_of rows n (e ∷ es) = line_of rows n e.asked e.gave ++ lines_of rows (suc n) es

-- the negotiator's number, and these lines
abbrev pub titled : ℕ → List ℕ → List ℕ
titled n lines = codes "walk " ++ (decimal n ++ (10 ∷ lines))

-- a text tells a walk: one with these calls from a book's making, the law of which holds, and what they gave back
pub record Tells (n : Algorithm) (src : Source) (calls : List Call) (out : List ℕ) : Type 0 where
  pub events : List Event
  pub left : Walk
  pub whole : Whole n src 1024 2048 calls events left
  pub text : out ≡ titled (number_of n) (lines_of left.rows 1 events)

-- what an input has the program print
abbrev pub Printed : Parsed → List ℕ → Type 0
Printed (bad p) out = out ≡ codes "bad " ++ (decimal p ++ (10 ∷ []))
Printed (walk store n fields) out = Tells n (store_of store) (calls_of fields) out
