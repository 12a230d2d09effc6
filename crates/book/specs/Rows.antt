-- What rows over links stand for.
use Rattle.std.specs.Prelude.{ℕ, ◌+◌, ◌<◌, ◌≤◌, List, take, drop, replicate, ℤ, pos, slice_index_or}
use Rattle.source.specs.declared.ObjectId.{ObjectId}
use Rattle.book.specs.declared.types.Metadata.{Metadata}
use Rattle.book.specs.declared.types.Row.{Row}

-- the id of twenty zeroes, which stands in an unused link
abbrev pub no_id : ObjectId
no_id = record { bytes = replicate 20 0 }

-- skip numbers and flags as a row has them
abbrev pub metadata : ℕ → ℕ → ℕ → Metadata
metadata o t f = record { original_ttl = o; ttl = t; flags = record { bits = f } }

-- a row of zeroes
abbrev pub empty_row : Row
empty_row = record { date = pos 0; first = 0; count = 0; id = no_id; head = 0; next = 0; metadata = metadata 0 0 0 }

-- a row that a commit takes: flags and skip numbers are zero
abbrev pub taken_row : ObjectId → ℤ → ℕ → ℕ → ℕ → ℕ → Row
taken_row i d at n head next = record { date = d; first = at; count = n; id = i; head = head; next = next; metadata = metadata 0 0 0 }

-- a commit of the book
pub record Entry : Type 0 where
  pub id : ObjectId
  pub date : ℤ
  pub parents : List ObjectId
  pub original : ℕ
  pub ttl : ℕ
  pub flags : ℕ

abbrev pub entry : List ObjectId → Row → Entry
entry links r = record { id = r.id; date = r.date; parents = take r.count (drop r.first links); original = r.metadata.original_ttl; ttl = r.metadata.ttl; flags = r.metadata.flags.bits }

-- each of the first `used` rows has its parents within the first `linked` links
abbrev pub Inside : List Row → ℕ → ℕ → Type 0
Inside rows used linked = (k : ℕ) (d : Row) → k < used → (slice_index_or rows k d).first + (slice_index_or rows k d).count ≤ linked
