-- A state as the rules see it, and what they do not see: the room and the numbers of the two queues.
use Rattle.std.specs.Prelude.{◌≡◌, ℕ, Bool, true, false, ◌||◌, [], ◌∷◌, Some, None, Ok, Err, Option, Result, ◌==◌}
use Rattle.std.proofs.Math.Option as model_option
use Rattle.book.specs.Model.{model}
use Rattle.queue.specs.declared.entry.Entry.{Entry}
use Rattle.queue.specs.Queue.{waiting, room, entered}
use Rattle.book.specs.declared.types.Denial.{Denial}
use Rattle.book.specs.declared.types.Denial.TheVariants.{Stopped}
use Rattle.book.specs.declared.types.Metadata.{Metadata}
use Rattle.model.specs.declared.Step.{Step}
use Rattle.model.specs.Book.{Flags, Row, Walk, Marks, Waits, no_flags, flags_at, drawn}
use Rattle.model.specs.View.{unpack, walk_of}
use Rattle.walk.specs.declared.state.State.{State}

unfoldable pub view : State → Walk
view s = walk_of (model s.book) (waiting s.queue) s.count

-- the rows that wait to be marked from, in draw order
unfoldable pub marks : State → Marks
marks s = waiting s.marking

-- how many rows can wait, and how many have entered since the queue was last entered empty; of both queues
unfoldable pub places : State → ℕ
places s = room s.queue

unfoldable pub numbered : State → ℕ
numbered s = entered s.queue

unfoldable pub mark_places : State → ℕ
mark_places s = room s.marking

unfoldable pub mark_numbered : State → ℕ
mark_numbered s = entered s.marking

-- the queues keep their room
pub record Roomy (s t : State) : Type 0 where
  pub places : places t ≡ places s
  pub mark_places : mark_places t ≡ mark_places s

-- and the marking queue stays as it is
pub record Aside (s t : State) : Type 0 where
  pub rooms : Roomy s t
  pub marks : marks t ≡ marks s
  pub mark_numbered : mark_numbered t ≡ mark_numbered s

-- and so do the queue's numbers
pub record Quiet (s t : State) : Type 0 where
  pub aside : Aside s t
  pub numbered : numbered t ≡ numbered s

-- only the marking queue changes
pub record OnlyMarks (s t : State) : Type 0 where
  pub same : view t ≡ view s
  pub rooms : Roomy s t
  pub numbered : numbered t ≡ numbered s

-- whether a call is accepted
abbrev pub Going : Walk → Result (Unit {0}) Denial → Type 0
Going s (Ok x) = s.stopped ≡ false
Going s (Err d) = (s.stopped ≡ true) × (d ≡ Stopped)

-- the flag bytes that the walks set
abbrev pub is_mask : ℕ → Bool
is_mask m = m == 4 || (m == 8 || (m == 16 || (m == 40 || (m == 12 || m == 72))))

-- a row that an id has
abbrev pub row_of : model_option.Option ℕ → Option ℕ
row_of model_option.none = None
row_of (model_option.some k) = Some k

-- the flags of the row that an id has, or none where it has no row
abbrev pub flags_of : Walk → model_option.Option ℕ → Flags
flags_of s model_option.none = no_flags
flags_of s (model_option.some k) = flags_at s k

-- what a draw takes: the first that waits, or nothing where none does
abbrev pub Drew : Walk → Option ℕ → Walk → Type 0
Drew s None t = (s.queue ≡ []) × (t ≡ s)
Drew s (Some k) t = (e : Entry ℕ) × (q : Waits) × (s.queue ≡ e ∷ q) × (e.value ≡ k) × (t ≡ drawn s q)

-- the skip numbers and the flags of a row
pub record HasMetadata (r : Row) (m : Metadata) : Type 0 where
  pub original : m.original_ttl ≡ r.original
  pub ttl : m.ttl ≡ r.ttl
  pub flags : unpack m.flags.bits ≡ r.flags

-- what a draw from the marking queue takes
abbrev pub DrewMark : Marks → Option Step → Marks → Type 0
DrewMark q None p = (q ≡ []) × (p ≡ [])
DrewMark q (Some x) p = (e : Entry Step) × (q ≡ e ∷ p) × (e.value ≡ x)
