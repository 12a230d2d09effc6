-- The laws that hold of every past.
use Rattle.std.specs.Prelude.{◌≡◌, ℕ, ◌+◌, true, false, ◌⊎◌, List, [], ◌∷◌, count_by}
use Rattle.source.specs.declared.ObjectId.{ObjectId}
use Rattle.model.specs.declared.Algorithm.{Algorithm}
use Rattle.model.specs.declared.Algorithm.TheVariants as algorithm
use Rattle.model.specs.declared.Event.{Event}
use Rattle.model.specs.declared.Call.{Call}
use Rattle.model.specs.declared.Call.TheVariants.{NextHave}
use Rattle.model.specs.declared.Reply.{Reply}
use Rattle.model.specs.declared.Reply.TheVariants.{NoneLeft}
use Rattle.model.specs.Book.{Walk, row, flags_at, Source}
use Rattle.model.specs.Past.{does, Called, Past, HaveOf, is_next, Tip, Acked, Answered, Reach, Covered, is_seen, is_settled}

-- the seen commits are as many as the settled ones and the count
abbrev pub Tallied : Walk → Type 0
Tallied s = count_by is_seen s.rows ≡ count_by is_settled s.rows + s.count

-- every seen commit is settled: as every settled one is seen, the two sets are equal
abbrev pub Settled : Walk → Type 0
Settled s = (k : ℕ) → is_seen (row s k) ≡ true → is_settled (row s k) ≡ true

-- each commit that a tip reaches is answered, at or behind an acknowledged, or behind a known-common one
abbrev pub Complete : Source → List Event → Walk → Type 0
Complete src h s = (t i : ObjectId) → Tip h t → Reach src t i → ((k : ℕ) × Answered h k × ((row s k).id ≡ i)) ⊎ Covered src h i

-- no commit is answered twice, nor after its acknowledgement was accepted
abbrev pub Once : Walk → List Event → Type 0
Once s [] = Unit {0}
Once s (e ∷ h) = ((k : ℕ) → HaveOf e.gave k → (Answered h k → ⊥) × (Acked h (row s k).id → ⊥)) × Once s h

-- the laws of consecutive, of a past and the walk that it leads to
pub record Counts (src : Source) (h : List Event) (s : Walk) : Type 0 where
  -- after denied calls too
  pub tallied : Tallied s
  -- the two sets are equal exactly when the count is zero
  pub settled : s.count ≡ 0 → Settled s
  pub zero : Settled s → s.count ≡ 0
  -- and an accepted next_have then answers none
  pub spent : s.count ≡ 0 → (a : Reply) (t : Walk) → Called (does algorithm.Consecutive src) s NextHave a t → s.stopped ≡ false → a ≡ NoneLeft
  -- right after a none
  pub complete : (g : List Event) → h ≡ record { asked = NextHave; gave = NoneLeft } ∷ g → Settled s × Complete src g s

-- the whole law, of a past of a negotiator over a source and the walk that it leads to
pub record Lawful (n : Algorithm) (src : Source) (h : List Event) (s : Walk) : Type 0 where
  pub once : Once s h
  pub counts : n ≡ algorithm.Consecutive → Counts src h s

-- every past is lawful
abbrev pub EveryPastLawful : Type 0
EveryPastLawful = (n : Algorithm) (src : Source) (h : List Event) (s : Walk) → Past n src h s → Lawful n src h s

-- the rows with POPPED: nothing leaves them, only next_have adds to them, and an answered row is one that it added in that call
pub record Pops (s : Walk) (c : Call) (a : Reply) (t : Walk) : Type 0 where
  pub stays : (k : ℕ) → (flags_at s k).popped ≡ true → (flags_at t k).popped ≡ true
  pub by_next : is_next c ≡ false → (k : ℕ) → (flags_at t k).popped ≡ true → (flags_at s k).popped ≡ true
  pub added : (k : ℕ) → HaveOf a k → ((flags_at s k).popped ≡ false) × ((flags_at t k).popped ≡ true)

-- of every call of every negotiator
abbrev pub EveryCallPops : Type 0
EveryCallPops = (n : Algorithm) (src : Source) (h : List Event) (s : Walk) (c : Call) (a : Reply) (t : Walk) → Past n src h s → Called (does n src) s c a t → Pops s c a t

-- the walk, the source and the call fix what is given back and what is left
abbrev pub EveryCallFixed : Type 0
EveryCallFixed = (n : Algorithm) (src : Source) (s : Walk) (c : Call) (a b : Reply) (t u : Walk) → Called (does n src) s c a t → Called (does n src) s c b u → (b ≡ a) × (u ≡ t)

-- what every call of a negotiator promises, for every past that leads to it
pub record Answers (n : Algorithm) (src : Source) (s : Walk) (c : Call) (a : Reply) (t : Walk) : Type 0 where
  -- the outcome is one of the steps', and there is no other
  pub step : Called (does n src) s c a t
  pub only : (b : Reply) (u : Walk) → Called (does n src) s c b u → (b ≡ a) × (u ≡ t)
  -- the past with this call leads to the walk that is left, and is lawful
  pub past : (h : List Event) → Past n src h s → Past n src (record { asked = c; gave = a } ∷ h) t
  pub lawful : (h : List Event) → Past n src h s → Lawful n src (record { asked = c; gave = a } ∷ h) t
  pub pops : (h : List Event) → Past n src h s → Pops s c a t
