-- The steps that every negotiator shares: a lookup, a note, and how a step ends.
use Rattle.std.specs.Prelude.{◌≡◌, ℕ, ◌+◌, ◌-◌, ◌<◌, ◌≤◌, Bool, false, cond, List, length, ℤ}
use Rattle.std.proofs.Math.Option.{Option, none, some}
use Rattle.source.specs.declared.ObjectId.{ObjectId}
use Rattle.source.specs.declared.Fault.{Fault}
use Rattle.source.specs.Meaning.{absent, failing, commit}
use Rattle.book.specs.declared.types.Denial.{Denial}
use Rattle.book.specs.declared.types.Denial.TheVariants as denial
use Rattle.book.specs.declared.types.Remark.{Remark}
use Rattle.book.specs.declared.types.Remark.TheVariants.{Complete, Alternate}
use Rattle.model.specs.declared.Reply.{Reply}
use Rattle.model.specs.declared.Reply.TheVariants.{Done, Denied}
use Rattle.model.specs.Book.{Flags, POPPED, COMPLETE, ALTERNATE, join, Waits, Walk, flags_at, change, stop, add_row, find, Source}

-- What a lookup gives: a row and the walk with it, nothing, or a denial
pub data Looked : Type 0 where
  found : ℕ → Walk → Looked
  nothing : Looked
  denied : Denial → Looked

-- A row is read where there is one; else the source is asked. The denials are tested in this order: the source fails, all rows are taken, too few links are free
pub data Lookup (src : Source) (s : Walk) (i : ObjectId) : Looked → Type 0 where
  held : (k : ℕ) → find i s.rows ≡ some k → Lookup src s i (found k s)
  lacks : find i s.rows ≡ none → src i ≡ absent → Lookup src s i nothing
  fails : (e : Fault) → find i s.rows ≡ none → src i ≡ failing e → Lookup src s i (denied (denial.Failing e))
  full : (d : ℤ) (ps : List ObjectId) → find i s.rows ≡ none → src i ≡ commit d ps → s.most_rows ≤ length s.rows → Lookup src s i (denied denial.RowsFull)
  short : (d : ℤ) (ps : List ObjectId) → find i s.rows ≡ none → src i ≡ commit d ps → length s.rows < s.most_rows → s.most_links < s.links + length ps → Lookup src s i (denied denial.LinksFull)
  adds : (d : ℤ) (ps : List ObjectId) → find i s.rows ≡ none → src i ≡ commit d ps → length s.rows < s.most_rows → s.links + length ps ≤ s.most_links → Lookup src s i (found (length s.rows) (add_row s i d ps))

-- How a step ends: the walk goes on, or a denial has stopped it
pub data Res : Type 0 where
  ok : Walk → Res
  no : Denial → Walk → Res

-- whether an id has a row with SEEN; only rows are read
abbrev pub sees_at : Walk → Option ℕ → Bool
sees_at s none = false
sees_at s (some k) = (flags_at s k).seen

abbrev pub sees : Walk → ObjectId → Bool
sees s i = sees_at s (find i s.rows)

-- whether an id has a row with COMMON; only rows are read
abbrev pub common_at : Walk → Option ℕ → Bool
common_at s none = false
common_at s (some k) = (flags_at s k).common

-- POPPED set at the drawn row k, which lowers the count unless it is COMMON
abbrev pub taken : Walk → ℕ → Waits → Walk
taken s k q = change s k (join POPPED (flags_at s k)) q (s.count - cond (flags_at s k).common 0 1)

-- the flag that a remark sets
abbrev pub remarked : Remark → Flags
remarked Complete = COMPLETE
remarked Alternate = ALTERNATE

abbrev pub noted : Remark → Walk → ℕ → Walk
noted r s k = change s k (join (remarked r) (flags_at s k)) s.queue s.count

-- a note: under every negotiator it looks the id up and sets the remark's flag, and it does nothing at an absent id
pub data Noted (src : Source) (s : Walk) (r : Remark) (i : ObjectId) : Reply → Walk → Type 0 where
  barred : {d : Denial} → Lookup src s i (denied d) → Noted src s r i (Denied d) (stop s)
  gone : Lookup src s i nothing → Noted src s r i Done s
  set_at : {k : ℕ} {s' : Walk} → Lookup src s i (found k s') → Noted src s r i Done (noted r s' k)
