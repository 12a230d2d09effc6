-- The book: rows with flags, links, the waiting queue, the count; and a lookup.
use Rattle.std.specs.Prelude.{ℕ, suc, ◌+◌, Bool, true, false, cond, ◌&&◌, ◌||◌, List, [], ◌∷◌, ◌++◌, length, get_or, ℤ, pos, slice_index_or, slice_set}
use Rattle.std.proofs.Math.Option.{Option, none, some}
use Rattle.source.specs.declared.ObjectId.{ObjectId}
use Rattle.source.specs.Ids.{is_same_id}
use Rattle.source.specs.Meaning.{Meaning}
use Rattle.book.specs.Rows.{no_id}
use Rattle.queue.specs.declared.entry.Entry.{Entry}
use Rattle.queue.specs.Waiting.{enter}
use Rattle.model.specs.declared.Step.{Step}

pub record Flags : Type 0 where
  pub complete : Bool
  pub alternate : Bool
  pub common : Bool
  pub seen : Bool
  pub popped : Bool
  pub cref : Bool
  pub advertised : Bool
  pub unused : Bool

abbrev pub no_flags : Flags
no_flags = record { complete = false; alternate = false; common = false; seen = false; popped = false; cref = false; advertised = false; unused = false }

-- the masks
abbrev pub SEEN : Flags
SEEN = record { complete = false; alternate = false; common = false; seen = true; popped = false; cref = false; advertised = false; unused = false }

abbrev pub COMMON : Flags
COMMON = record { complete = false; alternate = false; common = true; seen = false; popped = false; cref = false; advertised = false; unused = false }

abbrev pub POPPED : Flags
POPPED = record { complete = false; alternate = false; common = false; seen = false; popped = true; cref = false; advertised = false; unused = false }

abbrev pub COMMON_REF_AND_SEEN : Flags
COMMON_REF_AND_SEEN = record { complete = false; alternate = false; common = false; seen = true; popped = false; cref = true; advertised = false; unused = false }

abbrev pub COMMON_AND_SEEN : Flags
COMMON_AND_SEEN = record { complete = false; alternate = false; common = true; seen = true; popped = false; cref = false; advertised = false; unused = false }

abbrev pub ADVERTISED_AND_SEEN : Flags
ADVERTISED_AND_SEEN = record { complete = false; alternate = false; common = false; seen = true; popped = false; cref = false; advertised = true; unused = false }

abbrev pub COMPLETE : Flags
COMPLETE = record { complete = true; alternate = false; common = false; seen = false; popped = false; cref = false; advertised = false; unused = false }

abbrev pub ALTERNATE : Flags
ALTERNATE = record { complete = false; alternate = true; common = false; seen = false; popped = false; cref = false; advertised = false; unused = false }

-- the flags f with the bits of the mask m set, and whether f has one of them
abbrev pub join : Flags → Flags → Flags
join m f = record { complete = m.complete || f.complete; alternate = m.alternate || f.alternate; common = m.common || f.common; seen = m.seen || f.seen; popped = m.popped || f.popped; cref = m.cref || f.cref; advertised = m.advertised || f.advertised; unused = m.unused || f.unused }

abbrev pub meets : Flags → Flags → Bool
meets m f = (m.complete && f.complete) || ((m.alternate && f.alternate) || ((m.common && f.common) || ((m.seen && f.seen) || ((m.popped && f.popped) || ((m.cref && f.cref) || ((m.advertised && f.advertised) || (m.unused && f.unused)))))))

pub record Row : Type 0 where
  pub id : ObjectId
  pub date : ℤ
  pub parents : List ObjectId
  pub flags : Flags
  pub original : ℕ
  pub ttl : ℕ

abbrev pub no_row : Row
no_row = record { id = no_id; date = pos 0; parents = []; flags = no_flags; original = 0; ttl = 0 }

abbrev pub reflag : Row → Flags → Row
reflag r f = record { id = r.id; date = r.date; parents = r.parents; flags = f; original = r.original; ttl = r.ttl }

-- the row with other skip numbers
abbrev pub renumber : Row → ℕ → ℕ → Row
renumber r o t = record { id = r.id; date = r.date; parents = r.parents; flags = r.flags; original = o; ttl = t }

-- the rows that wait, in draw order, each with its date
abbrev pub Waits : Type 0
Waits = List (Entry ℕ)

pub record Walk : Type 0 where
  pub rows : List Row
  pub links : ℕ
  pub most_rows : ℕ
  pub most_links : ℕ
  pub queue : Waits
  pub count : ℕ
  pub stopped : Bool

abbrev pub made : ℕ → ℕ → Walk
made n l = record { rows = []; links = 0; most_rows = n; most_links = l; queue = []; count = 0; stopped = false }

abbrev pub row : Walk → ℕ → Row
row s k = slice_index_or s.rows k no_row

abbrev pub flags_at : Walk → ℕ → Flags
flags_at s k = (row s k).flags

-- the walk with another row k, queue and count
abbrev pub put : Walk → ℕ → Row → Waits → ℕ → Walk
put s k r q c = record { rows = slice_set s.rows k r; links = s.links; most_rows = s.most_rows; most_links = s.most_links; queue = q; count = c; stopped = s.stopped }

-- the same, where only the row's flags change
abbrev pub change : Walk → ℕ → Flags → Waits → ℕ → Walk
change s k f q c = put s k (reflag (row s k) f) q c

-- the walk with another count
abbrev pub recount : Walk → ℕ → Walk
recount s c = record { rows = s.rows; links = s.links; most_rows = s.most_rows; most_links = s.most_links; queue = s.queue; count = c; stopped = s.stopped }

abbrev pub drawn : Walk → Waits → Walk
drawn s q = record { rows = s.rows; links = s.links; most_rows = s.most_rows; most_links = s.most_links; queue = q; count = s.count; stopped = s.stopped }

abbrev pub stop : Walk → Walk
stop s = record { rows = s.rows; links = s.links; most_rows = s.most_rows; most_links = s.most_links; queue = s.queue; count = s.count; stopped = true }

abbrev pub fresh_row : ObjectId → ℤ → List ObjectId → Row
fresh_row i d ps = record { id = i; date = d; parents = ps; flags = no_flags; original = 0; ttl = 0 }

abbrev pub add_row : Walk → ObjectId → ℤ → List ObjectId → Walk
add_row s i d ps = record { rows = s.rows ++ (fresh_row i d ps ∷ []); links = s.links + length ps; most_rows = s.most_rows; most_links = s.most_links; queue = s.queue; count = s.count; stopped = s.stopped }

-- the row number of an id
abbrev pub bump : Option ℕ → Option ℕ
bump none = none
bump (some k) = some (suc k)

abbrev pub find : ObjectId → List Row → Option ℕ
find i [] = none
find i (r ∷ rs) = cond (is_same_id r.id i) (some 0) (bump (find i rs))

abbrev pub Source : Type 0
Source = ObjectId → Meaning

-- the row k enters the queue with its date
abbrev pub place : List Row → ℕ → Waits → Waits
place rs k q = enter (record { date = (get_or rs k no_row).date; value = k }) q

-- the marking queue: a row and a generation
abbrev pub Marks : Type 0
Marks = List (Entry Step)

abbrev pub place_mark : List Row → Step → Marks → Marks
place_mark rs e q = enter (record { date = (get_or rs e.row no_row).date; value = e }) q
