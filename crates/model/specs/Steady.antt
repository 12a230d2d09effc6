-- What each step keeps: the tally, the queue, and why a row has its flags.
use Rattle.std.specs.Prelude.{◌≡◌, ℕ, ◌+◌, ◌<◌, ◌≤◌, Bool, true, false, cond, not, ◌&&◌, ◌⊎◌, [], ◌∷◌, length, count_by, ◌==◌}
use Rattle.source.specs.declared.ObjectId.{ObjectId}
use Rattle.source.specs.Meaning.{absent, commit}
use Rattle.model.specs.Book.{Flags, Row, Waits, Marks, Walk, row, flags_at, Source}
use Rattle.queue.specs.declared.entry.Entry.{Entry}
use Rattle.model.specs.declared.Step.{Step}
use Rattle.model.specs.Past.{In, Has, Parent}

-- how often k stands in the queue
abbrev pub occ : ℕ → Waits → ℕ
occ k [] = 0
occ k (e ∷ es) = cond (e.value == k) 1 0 + occ k es

abbrev pub bit : Bool → ℕ
bit b = cond b 1 0

abbrev pub open_flags : Flags → Bool
open_flags f = f.seen && (not f.popped && not f.common)

abbrev pub is_open : Row → Bool
is_open r = open_flags r.flags

-- a row's flags beside how often the row waits
pub record Fine (f : Flags) (n : ℕ) : Type 0 where
  pub waits1 : open_flags f ≡ true → n ≡ 1
  pub once : n ≤ 1
  pub queued_seen : 0 < n → f.seen ≡ true
  pub queued_unpopped : 0 < n → f.popped ≡ false
  pub ref_seen : f.cref ≡ true → f.seen ≡ true
  pub pop_seen : f.popped ≡ true → f.seen ≡ true

-- why rows have their flags: ids that may have COMMON, ids that may have COMMON_REF, rows that may be POPPED without COMMON, rows that may be POPPED; whether the rows are the source's, and whether the count is exact
pub record World : Type 1 where
  pub src : Source
  pub Cov : ObjectId → Type 0
  pub Ref : ObjectId → Type 0
  pub Ans : ℕ → Type 0
  pub Pop : ℕ → Type 0
  pub Real : Type 0
  pub Exact : Type 0
  pub down : (b c : ObjectId) → Cov b → Parent src b c → Has src c → Cov c
  pub ref_down : (b c : ObjectId) → Ref b → Parent src b c → Has src c → Cov c

abbrev pub has_seen : Row → Bool
has_seen r = r.flags.seen

abbrev pub has_common : Row → Bool
has_common r = r.flags.common

unfoldable pub seen_rows : Walk → ℕ
seen_rows s = count_by has_seen s.rows

unfoldable pub common_rows : Walk → ℕ
common_rows s = count_by has_common s.rows

pub record Good (W : World) (s : Walk) : Type 0 where
  pub tally : W.Exact → s.count ≡ count_by is_open s.rows
  pub pop : (k : ℕ) → (flags_at s k).popped ≡ true → W.Pop k
  pub fine : (k : ℕ) → Fine (flags_at s k) (occ k s.queue)
  pub cov : (k : ℕ) → (flags_at s k).common ≡ true → W.Cov (row s k).id
  pub ref : (k : ℕ) → (flags_at s k).cref ≡ true → W.Ref (row s k).id
  pub ans : (k : ℕ) → (flags_at s k).popped ≡ true → ((flags_at s k).common ≡ true) ⊎ W.Ans k
  pub from : W.Real → (k : ℕ) → k < length s.rows → W.src (row s k).id ≡ commit (row s k).date (row s k).parents
  pub uniq : (j k : ℕ) → j < length s.rows → k < length s.rows → (row s j).id ≡ (row s k).id → j ≡ k
  pub room : length s.rows ≤ s.most_rows
  pub short : length s.queue ≤ seen_rows s

-- rows stay, and keep their flags; the queue grows no more than the seen rows do
pub record Ext (s t : Walk) : Type 0 where
  pub longer : length s.rows ≤ length t.rows
  pub same_parents : (k : ℕ) → k < length s.rows → (row t k).parents ≡ (row s k).parents
  pub same_id : (k : ℕ) → k < length s.rows → (row t k).id ≡ (row s k).id
  pub seen_stays : (k : ℕ) → (flags_at s k).seen ≡ true → (flags_at t k).seen ≡ true
  pub common_stays : (k : ℕ) → (flags_at s k).common ≡ true → (flags_at t k).common ≡ true
  pub popped_stays : (k : ℕ) → (flags_at s k).popped ≡ true → (flags_at t k).popped ≡ true
  pub pays : length t.queue + seen_rows s ≤ length s.queue + seen_rows t
  pub seens : seen_rows s ≤ seen_rows t
  pub commons : common_rows s ≤ common_rows t
  pub most : t.most_rows ≡ s.most_rows

-- no reason at all: what holds of a walk whatever its sources were
abbrev pub free : World
free = record { src = λ i. absent; Cov = λ i. Unit {0}; Ref = λ i. Unit {0}; Ans = λ k. Unit {0}; Pop = λ k. Unit {0}; Real = ⊥; Exact = Unit {0}; down = λ b c x y z. tt; ref_down = λ b c x y z. tt }

-- nothing is said but which rows may be POPPED, and that the rows are the source's where R holds: the count need not be exact
abbrev pub lax : Source → (ℕ → Type 0) → Type 0 → World
lax src P R = record { src = src; Cov = λ i. Unit {0}; Ref = λ i. Unit {0}; Ans = λ k. Unit {0}; Pop = P; Real = R; Exact = ⊥; down = λ b c x y z. tt; ref_down = λ b c x y z. tt }

abbrev pub loose : World
loose = lax (λ i. absent) (λ k. Unit {0}) ⊥

-- how many rows are open: seen and not settled
unfoldable pub opens : Walk → ℕ
opens s = count_by is_open s.rows

-- how many entries of a marking queue have a row without POPPED
abbrev pub pending : Walk → Marks → ℕ
pending s [] = 0
pending s (e ∷ q) = bit (not (flags_at s e.value.row).popped) + pending s q

-- what every step of the skipping walk keeps, while q waits to be marked from: the count is never too low, nor above the seen rows
pub record Low (W : World) (q : Marks) (s : Walk) : Type 0 where
  pub good : Good W s
  pub low : opens s + pending s q ≤ s.count
  pub high : s.count ≤ seen_rows s

-- a walk's state, with the places of its two queues, and the number of entries that the first has counted
pub record Fit (s : Walk) (numbered places marks : ℕ) : Type 0 where
  pub good : Good free s
  pub counted : numbered ≤ seen_rows s
  pub placed : s.most_rows ≤ places
  pub marked : s.most_rows ≤ marks
  pub most : s.most_rows ≤ 65535

-- a marking queue: its rows are there, its generations and its length and its numbers are held by the rows with COMMON; `more` is 1 while the first row may wait
pub record Held (s : Walk) (q : Marks) (numbered more : ℕ) : Type 0 where
  pub inside : (e : Entry Step) → In e q → e.value.row < length s.rows
  pub young : (e : Entry Step) → In e q → e.value.generation ≤ common_rows s
  pub brief : length q ≤ more + common_rows s
  pub counted : numbered ≤ 1 + common_rows s

-- the same of the skipping walk
pub record SkipFit (s : Walk) (numbered places marks : ℕ) : Type 0 where
  pub steady : Low loose [] s
  pub counted : numbered ≤ seen_rows s
  pub placed : s.most_rows ≤ places
  pub marked : s.most_rows ≤ marks
  pub most : s.most_rows ≤ 65535

-- its marking queue: the rows are there, its length and its numbers are held by the rows with COMMON, and the count has room for its draws
pub record SkipHeld (s : Walk) (q : Marks) (numbered : ℕ) : Type 0 where
  pub inside : (e : Entry Step) → In e q → e.value.row < length s.rows
  pub brief : length q ≤ common_rows s
  pub counted : numbered ≤ common_rows s
  pub low : opens s + pending s q ≤ s.count
