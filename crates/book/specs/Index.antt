-- The index of the rows by id: chains of rows, from the last that came in to the first.
use Rattle.std.specs.Prelude.{◌≡◌, ℕ, zero, suc, ◌+◌, ◌*◌, ◌%◌, ◌<◌, false, cond, List, map, ◌==◌, slice_index, slice_index_or}
use Rattle.source.specs.declared.ObjectId.{ObjectId}
use Rattle.book.specs.declared.types.Row.{Row}
use Rattle.source.specs.Ids.{is_same_id}
use Rattle.book.specs.Rows.{no_id}

unfoldable pub hash : ObjectId → ℕ → ℕ
hash i m = (slice_index i.bytes 0 + 256 * slice_index i.bytes 1 + 65536 * slice_index i.bytes 2) % m

-- of the first `n` ids, the last in bucket `h`: its place plus one, or 0
abbrev pub last : List ObjectId → ℕ → ℕ → ℕ → ℕ
last xs m h zero = 0
last xs m h (suc n) = cond (hash (slice_index_or xs n no_id) m == h) (suc n) (last xs m h n)

abbrev pub id_of : Row → ObjectId
id_of r = r.id

abbrev pub head_of : Row → ℕ
head_of r = r.head

abbrev pub next_of : Row → ℕ
next_of r = r.next

abbrev pub Chain : List ObjectId → List ℕ → ℕ → ℕ → Type 0
Chain ids nexts m used = (k : ℕ) → k < used → slice_index nexts k ≡ last ids m (hash (slice_index_or ids k no_id) m) k

abbrev pub Heads : List ObjectId → List ℕ → ℕ → ℕ → Type 0
Heads ids heads m used = (h : ℕ) → h < m → slice_index heads h ≡ last ids m h used

abbrev pub Apart : List ObjectId → ℕ → Type 0
Apart ids used = (j k : ℕ) → (j < k) × (k < used) → is_same_id (slice_index_or ids j no_id) (slice_index_or ids k no_id) ≡ false

abbrev pub Chained : List Row → ℕ → ℕ → Type 0
Chained rows m used = Chain (map id_of rows) (map next_of rows) m used

abbrev pub Headed : List Row → ℕ → ℕ → Type 0
Headed rows m used = Heads (map id_of rows) (map head_of rows) m used

abbrev pub Distinct : List Row → ℕ → Type 0
Distinct rows used = Apart (map id_of rows) used
