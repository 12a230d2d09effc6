-- A book as its user sees it, and a lookup in it.
use Rattle.std.specs.Prelude.{◌≡◌, ℕ, zero, suc, ◌+◌, ◌≤◌, Bool, true, false, cond, List, [], ◌∷◌, ◌++◌, map, length, get_or, take, drop, ℤ, pos, Some, None, Ok, Err, vec_items, vec_len, Option, Result, bit_or, nat_lt, slice_index_or}
use Rattle.std.proofs.Math.Seq.{paste}
use Rattle.std.specs.List.{slice_get}
use Rattle.source.specs.declared.ObjectId.{ObjectId}
use Rattle.book.specs.declared.types.Flags.{Flags}
use Rattle.book.specs.declared.types.Metadata.{Metadata}
use Rattle.book.specs.declared.types.Row.{Row}
use Rattle.book.specs.declared.types.Head.{Head}
use Rattle.book.specs.declared.types.Denial.{Denial}
use Rattle.book.specs.declared.types.Denial.TheVariants.{Stopped, RowsFull, LinksFull, NoSuchRow}
use Rattle.book.specs.declared.types.Denial.TheVariants as denial
use Rattle.book.specs.declared.book.Book.{Book}
use Rattle.source.specs.Ids.{place, is_same_id}
use Rattle.book.specs.Index.{id_of}
use Rattle.source.specs.Meaning.{Meaning, absent, failing, commit}
use Rattle.book.specs.Rows.{Entry, entry, metadata, no_id}

-- a book as its user knows it
pub record Model : Type 0 where
  -- the rows that are taken
  pub entries : List Entry
  -- how many links are taken
  pub linked : ℕ
  -- how many rows and links can be taken
  pub most_rows : ℕ
  pub most_links : ℕ
  -- how long the buffer of rows is
  pub slots : ℕ
  -- whether a denial has stopped the walk
  pub stopped : Bool

abbrev pub model : Book → Model
model b = record {
  entries = map (entry (vec_items b.links)) (take b.used (vec_items b.rows));
  linked = b.linked;
  most_rows = b.limit;
  most_links = length (vec_items b.links);
  slots = length (vec_items b.rows);
  stopped = b.stopped;
}

abbrev pub ids_of : Model → List ObjectId
ids_of m = map (λ (e : Entry). e.id) m.entries

-- a book of `n` rows in which nothing is taken
abbrev pub blank : ℕ → ℕ → ℕ → Model
blank n rows links = record { entries = []; linked = 0; most_rows = n; most_links = links; slots = rows; stopped = false }

-- what a lookup leaves and answers
pub record Looked : Type 0 where
  pub book : Model
  pub answer : Result (Option ℕ) Denial

abbrev pub halted : Model → Model
halted m = record { entries = m.entries; linked = m.linked; most_rows = m.most_rows; most_links = m.most_links; slots = m.slots; stopped = true }

-- a new row: flags and skip numbers are zero
abbrev pub fresh : ObjectId → ℤ → List ObjectId → Entry
fresh i d ps = record { id = i; date = d; parents = ps; original = 0; ttl = 0; flags = 0 }

abbrev pub entered : Model → Entry → Model
entered m e = record { entries = m.entries ++ e ∷ []; linked = m.linked + length e.parents; most_rows = m.most_rows; most_links = m.most_links; slots = m.slots; stopped = m.stopped }

-- a commit without a row comes in, or is denied
abbrev pub enter : Model → Entry → Looked
enter m e =
    cond (nat_lt (length m.entries) m.most_rows)
    (cond (nat_lt m.most_links (m.linked + length e.parents))
    (record { book = halted m; answer = Err LinksFull })
    (record { book = entered m e; answer = Ok (Some (length m.entries)) }))
    (record { book = halted m; answer = Err RowsFull })

-- what the source says of an id that has no row
abbrev pub query : Model → ObjectId → Meaning → Looked
query m i absent = record { book = m; answer = Ok None }
query m i (failing f) = record { book = halted m; answer = Err (denial.Failing f) }
query m i (commit d ps) = enter m (fresh i d ps)

-- a denial stops the walk
abbrev pub stopping : Result (Option ℕ) Denial → Model → Model
stopping (Ok o) m = m
stopping (Err d) m = halted m

abbrev pub found : Option ℕ → Model → Looked → Looked
found None m l = l
found (Some k) m l = record { book = m; answer = Ok (Some k) }

-- the row of an id, or what the source makes of it
abbrev pub looked_up : (ObjectId → Meaning) → ObjectId → Model → Looked
looked_up meaning i m = found (place i (ids_of m) 0) m (query m i (meaning i))

-- the row with a number, where it is taken
abbrev pub row_at : Model → ℕ → Option Entry
row_at m k = slice_get m.entries k

-- what a read of it answers
abbrev pub reading : {X Y : Type 0} → (X → Y) → Option X → Result Y Denial
reading f None = Err NoSuchRow
reading f (Some e) = Ok (f e)

abbrev pub reading_parent : ℕ → Option Entry → Result ObjectId Denial
reading_parent n None = Err NoSuchRow
reading_parent n (Some e) = reading (λ p. p) (slice_get e.parents n)

abbrev pub flags_of : Entry → Flags
flags_of e = record { bits = e.flags }

abbrev pub metadata_of : Entry → Metadata
metadata_of e = metadata e.original e.ttl e.flags

-- what stands past the last entry, and what is read of an entry at once
abbrev pub no_entry : Entry
no_entry = record { id = no_id; date = pos 0; parents = []; original = 0; ttl = 0; flags = 0 }

abbrev pub summed : Entry → Head
summed e = record { date = e.date; parents = length e.parents; flags = flags_of e }

-- the entry at `k` becomes what `f` makes of it, where there is one
abbrev pub altered : (Entry → Entry) → List Entry → ℕ → List Entry
altered f [] k = []
altered f (e ∷ es) zero = f e ∷ es
altered f (e ∷ es) (suc k) = e ∷ altered f es k

abbrev pub holding : Model → List Entry → Model
holding m es = record { entries = es; linked = m.linked; most_rows = m.most_rows; most_links = m.most_links; slots = m.slots; stopped = m.stopped }

abbrev pub raise : ℕ → Entry → Entry
raise mask e = record { id = e.id; date = e.date; parents = e.parents; original = e.original; ttl = e.ttl; flags = bit_or e.flags mask }

abbrev pub raised : List Entry → ℕ → ℕ → List Entry
raised es k mask = altered (raise mask) es k

-- the row `k` gains the bits of `mask`
abbrev pub flagged : Model → ℕ → ℕ → Model
flagged m k mask = holding m (raised m.entries k mask)

abbrev pub renumber : ℕ → ℕ → Entry → Entry
renumber o t e = record { id = e.id; date = e.date; parents = e.parents; original = o; ttl = t; flags = e.flags }

-- the row `k` has these skip numbers
abbrev pub skipped : Model → ℕ → ℕ → ℕ → Model
skipped m k o t = holding m (altered (renumber o t) m.entries k)

abbrev pub rewrite : Metadata → Entry → Entry
rewrite d e = record { id = e.id; date = e.date; parents = e.parents; original = d.original_ttl; ttl = d.ttl; flags = d.flags.bits }

-- the row `k` has this metadata
abbrev pub written : Model → ℕ → Metadata → Model
written m k d = holding m (altered (rewrite d) m.entries k)

-- what a note leaves and answers
pub record Done : Type 0 where
  pub book : Model
  pub answer : Result (Unit {0}) Denial

abbrev pub marked : Model → Result (Option ℕ) Denial → ℕ → Done
marked m (Err d) mask = record { book = m; answer = Err d }
marked m (Ok None) mask = record { book = m; answer = Ok tt }
marked m (Ok (Some k)) mask = record { book = flagged m k mask; answer = Ok tt }

-- whether the next call is accepted
abbrev pub going : Model → Result (Unit {0}) Denial
going m = cond m.stopped (Err Stopped) (Ok tt)

-- the id is looked up, and its row, where there is one, gains the bits of `mask`
abbrev pub noted : (ObjectId → Meaning) → ObjectId → ℕ → Model → Done
noted meaning i mask m =
    cond m.stopped
    (record { book = m; answer = Err Stopped })
    (marked (looked_up meaning i m).book (looked_up meaning i m).answer mask)

-- `c` is `b` with one more row, whose parents are the first `n` free links
pub record Inserted (b c : Book) (i : ObjectId) (d : ℤ) (n : ℕ) : Type 0 where
  pub entries : (links : List ObjectId) → map (entry links) (take c.used (vec_items c.rows)) ≡ map (entry links) (take b.used (vec_items b.rows)) ++ fresh i d (take n (drop b.linked links)) ∷ []
  pub slots : length (vec_items c.rows) ≡ length (vec_items b.rows)
  pub links : vec_items c.links ≡ vec_items b.links
  pub limit : c.limit ≡ b.limit
  pub used : c.used ≡ b.used + 1
  pub linked : c.linked ≡ b.linked + n
  pub stopped : c.stopped ≡ b.stopped

-- `c` is `b` with `n` of these ids in its free links, from the first on
pub record Copied (b c : Book) (ps : List ObjectId) (n : ℕ) : Type 0 where
  pub links : vec_items c.links ≡ paste (vec_items b.links) b.linked ps n
  pub rows : vec_items c.rows ≡ vec_items b.rows
  pub limit : c.limit ≡ b.limit
  pub used : c.used ≡ b.used
  pub linked : c.linked ≡ b.linked
  pub stopped : c.stopped ≡ b.stopped

-- what is known of a row that was read
abbrev pub Read : Book → ℕ → Result Row Denial → Type 0
Read b k (Ok x) = (row_at (model b) k ≡ Some (entry (vec_items b.links) x)) × (slice_index_or (model b).entries k no_entry ≡ entry (vec_items b.links) x) × (length (entry (vec_items b.links) x).parents ≡ x.count) × (x.first + x.count ≤ vec_len b.links)
Read b k (Err d) = (row_at (model b) k ≡ None) × (slice_index_or (model b).entries k no_entry ≡ no_entry) × (d ≡ NoSuchRow)

-- what is known of a parent that was read
abbrev pub Linked : Book → ℕ → ℕ → Option ObjectId → Type 0
Linked b k n (Some p) = (reading_parent n (row_at (model b) k) ≡ Ok p) × (slice_index_or (get_or (model b).entries k no_entry).parents n no_id ≡ p)
Linked b k n None = (reading_parent n (row_at (model b) k) ≡ Err NoSuchRow) × (slice_index_or (get_or (model b).entries k no_entry).parents n no_id ≡ no_id)

-- whether a commit with `n` parents finds a row and links, of which so many are taken
abbrev pub room_for : ℕ → ℕ → ℕ → ℕ → ℕ → Result (Unit {0}) Denial
room_for used rows linked links n = cond (nat_lt used rows) (cond (nat_lt links (linked + n)) (Err LinksFull) (Ok tt)) (Err RowsFull)

-- what is known of a row that was compared with an id
abbrev pub Compared : Book → ℕ → ObjectId → Bool → Type 0
Compared b k i true = place i (ids_of (model b)) 0 ≡ Some k
Compared b k i false = is_same_id (slice_index_or (map id_of (vec_items b.rows)) k no_id) i ≡ false
