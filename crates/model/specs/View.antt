-- The code's flag byte and entries as the model's flags and rows.
use Rattle.std.specs.Prelude.{◌≡◌, ℕ, false, ◌⊎◌, List, map}
use Rattle.book.specs.Bits.{has}
use Rattle.book.specs.Rows
use Rattle.book.specs.Model.{Model}
use Rattle.model.specs.Book.{Flags, Row, Waits, Walk}

abbrev pub unpack : ℕ → Flags
unpack f = record { complete = has f 1; alternate = has f 2; common = has f 4; seen = has f 8; popped = has f 16; cref = has f 32; advertised = has f 64; unused = has f 128 }

abbrev pub view_row : Rows.Entry → Row
view_row e = record { id = e.id; date = e.date; parents = e.parents; flags = unpack e.flags; original = e.original; ttl = e.ttl }

-- the rows of a book
abbrev pub rows_of : Model → List Row
rows_of m = map view_row m.entries

-- a book with a queue and a count
abbrev pub walk_of : Model → Waits → ℕ → Walk
walk_of m q c = record { rows = rows_of m; links = m.linked; most_rows = m.most_rows; most_links = m.most_links; queue = q; count = c; stopped = m.stopped }

-- a mask with which a row of these flags may be pushed: SEEN, or, where the row lacks SEEN, that with COMMON_REF or COMMON
abbrev pub Admits : ℕ → Flags → Type 0
Admits mask f = (mask ≡ 8) ⊎ (((mask ≡ 40) ⊎ (mask ≡ 12)) × (f.seen ≡ false))
