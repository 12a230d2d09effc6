-- The worked walks, computed.
use Rattle.std.proofs.Common.{◌≡◌, ℕ, true, false, List, [], ◌∷◌, map, sym, refl, subst, inl, inr}
use mathlib.Core.Option.{Option, none, some}
use Rattle.book.specs.declared.types.Denial.TheVariants as denial
use Rattle.queue.specs.declared.entry.Entry.{Entry}
use Rattle.model.specs.declared.Algorithm.{Algorithm}
use Rattle.model.specs.declared.Algorithm.TheVariants.{Noop, Consecutive, Skipping}
use Rattle.model.specs.declared.Event.{Event}
use Rattle.model.specs.declared.Call.{Call}
use Rattle.model.specs.declared.Reply.{Reply}
use Rattle.model.specs.declared.Reply.TheVariants.{Denied}
use Rattle.model.specs.Book.{Flags, Row, Walk, made, Source}
use Rattle.model.specs.Past.{does, Called}
use Rattle.model.specs.Walks.{Plays, Gives, Left, at, WalkChain, WalkWaits, WalkLost, WalkKnown, WalkMerge, WalkFull, WalkNear, WalkNearTold, WalkLostTold, WalkDates, WalkSkips, WalkSkipTold, WalkPins, WalkEdge, WalkNoop}
use Rattle.model.proofs.Eval.{Outcome}
use Rattle.model.proofs.Eval
use Rattle.model.proofs.SkipEval
use Rattle.model.proofs.Sound.{by_bool, as_some, ran_sound}
use Rattle.model.proofs.SkipSound.{skip_sound, noop_sound}

abbrev run : Algorithm → Source → Walk → Call → Option Outcome
run Noop src = SkipEval.noop_of src
run Consecutive src = Eval.ran_of src 1000
run Skipping src = SkipEval.ran_of src 1000

run_sound : (n : Algorithm) (src : Source) (s : Walk) (c : Call) (o : Outcome) → run n src s c ≡ some o → does n src s c o.gave o.left
run_sound Noop src = noop_sound src
run_sound Consecutive src = ran_sound src 1000
run_sound Skipping src = skip_sound src 1000

-- a call on any walk
abbrev called_of : (Walk → Call → Option Outcome) → Walk → Call → Option Outcome
called_of f s c = elim s.stopped [ true ↦ some (record { gave = Denied denial.Stopped; left = s }) | false ↦ f s c ]

called_sound : (n : Algorithm) (src : Source) (s : Walk) (c : Call) (o : Outcome) → called_of (run n src) s c ≡ some o → Called (does n src) s c o.gave o.left
called_sound n src s c o x = by_bool s.stopped (Called (does n src) s c o.gave o.left)
    (λ st. as_some (λ z. Called (does n src) s c z.gave z.left) (record { gave = Denied denial.Stopped; left = s }) o (rw (st, called_of) at x) (inl (st, refl, refl)))
    (λ st. inr (st, run_sound n src s c o (rw (st, called_of) at x)))

-- what is left by the calls of these events, and that each gives what its event says
abbrev left_at : Walk → (Walk → Walk) → Option Outcome → Walk
left_at s g none = s
left_at s g (some o) = g o.left

abbrev left : (Walk → Call → Option Outcome) → Walk → List Event → Walk
left f s [] = s
left f s (e ∷ es) = left_at s (λ u. left f u es) (called_of f s e.asked)

abbrev TellsAt : Reply → (Walk → Type 0) → Option Outcome → Type 0
TellsAt a P none = ⊥
TellsAt a P (some o) = (a ≡ o.gave) × P o.left

abbrev Tells : (Walk → Call → Option Outcome) → Walk → List Event → Type 0
Tells f s [] = Unit {0}
Tells f s (e ∷ es) = TellsAt e.gave (λ u. Tells f u es) (called_of f s e.asked)

tells_plays : (n : Algorithm) (src : Source) (es : List Event) (s : Walk) → Tells (run n src) s es → Plays (does n src) s es (left (run n src) s es)
tells_plays n src [] s h = refl
tells_plays n src (e ∷ es) s h = go (called_of (run n src) s e.asked) refl h (tells_plays n src es)
  where
    go : (o : Option Outcome) → called_of (run n src) s e.asked ≡ o → TellsAt e.gave (λ u. Tells (run n src) u es) o → ((u : Walk) → Tells (run n src) u es → Plays (does n src) u es (left (run n src) u es))
        → Plays (does n src) s (e ∷ es) (left_at s (λ u. left (run n src) u es) o)
    go none x t ih = absurd t
    go (some o) x t ih = (o.left, subst (λ (a : Reply). Called (does n src) s e.asked a o.left) (sym t.0) (called_sound n src s e.asked o x), ih o.left t.1)

gives : {n : Algorithm} {src : Source} {rows : ℕ} {es : List Event} {P : Walk → Type 0} → Tells (run n src) (made rows 20) es → P (left (run n src) (made rows 20) es) → Gives n src rows es P
gives {n} {src} {rows} {es} {P} h p = record { left = left (run n src) (made rows 20) es; plays = tells_plays n src es (made rows 20) h; holds = p }

-- what is left, by its four equations
left_as : {t : Walk} {commits : List ℕ} {flags : List Flags} {waits : List ℕ} {count : ℕ} → map (λ (r : Row). r.id) t.rows ≡ map at commits → map (λ (r : Row). r.flags) t.rows ≡ flags
    → map (λ (e : Entry ℕ). e.value) t.queue ≡ waits → t.count ≡ count → Left t commits flags waits count
left_as i f w c = record { ids = i; flagged = f; waiting = w; counted = c }

pub walk_chain : WalkChain
walk_chain = gives (refl, (refl, (refl, (refl, (refl, tt))))) (left_as refl refl refl refl)

pub walk_waits : WalkWaits
walk_waits = gives (refl, (refl, (refl, (refl, tt)))) (left_as refl refl refl refl)

pub walk_lost : WalkLost
walk_lost = gives (refl, (refl, (refl, (refl, (refl, tt))))) (left_as refl refl refl refl)

pub walk_known : WalkKnown
walk_known = gives (refl, (refl, (refl, (refl, (refl, tt))))) (left_as refl refl refl refl)

pub walk_merge : WalkMerge
walk_merge = gives (refl, (refl, (refl, (refl, (refl, (refl, tt)))))) (left_as refl refl refl refl)

pub walk_full : WalkFull
walk_full = gives (refl, (refl, (refl, (refl, tt)))) (left_as refl refl refl refl, refl)

pub walk_near : WalkNear
walk_near = gives (refl, (refl, (refl, (refl, (refl, tt))))) (left_as refl refl refl refl)

pub walk_near_told : WalkNearTold
walk_near_told = (
  gives (refl, (refl, (refl, tt))) (left_as refl refl refl refl),
  gives (refl, (refl, (refl, (refl, tt)))) (left_as refl refl refl refl),
)

pub walk_lost_told : WalkLostTold
walk_lost_told = gives (refl, (refl, (refl, (refl, (refl, tt))))) (left_as refl refl refl refl)

pub walk_dates : WalkDates
walk_dates = (
  gives (refl, (refl, (refl, (refl, (refl, tt))))) (left_as refl refl refl refl),
  gives (refl, (refl, (refl, (refl, (refl, tt))))) (left_as refl refl refl refl),
)

pub walk_skips : WalkSkips
walk_skips = gives (refl, (refl, (refl, (refl, (refl, (refl, tt)))))) (left_as refl refl refl refl)

pub walk_skip_told : WalkSkipTold
walk_skip_told = (
  gives (refl, (refl, (refl, (refl, (refl, tt))))) (left_as refl refl refl refl),
  gives (refl, (refl, (refl, (refl, (refl, tt))))) (left_as refl refl refl refl),
  gives (refl, (refl, tt)) (left_as refl refl refl refl),
  gives (refl, (refl, (refl, tt))) (left_as refl refl refl refl, refl),
)

pub walk_pins : WalkPins
walk_pins = (
  gives (refl, (refl, (refl, tt))) (left_as refl refl refl refl, refl, refl),
  gives (refl, (refl, (refl, tt))) (left_as refl refl refl refl),
  gives (refl, (refl, tt)) (left_as refl refl refl refl),
  gives (refl, (refl, (refl, (refl, (refl, tt))))) (left_as refl refl refl refl),
  gives (refl, (refl, (refl, (refl, (refl, tt))))) (left_as refl refl refl refl, refl),
)

pub walk_edge : WalkEdge
walk_edge = (
  gives (refl, (refl, (refl, tt))) (left_as refl refl refl refl, refl),
  gives (refl, (refl, (refl, tt))) (left_as refl refl refl refl, refl),
  gives (refl, (refl, (refl, tt))) (left_as refl refl refl refl, refl),
)

pub walk_noop : WalkNoop
walk_noop = (
  gives (refl, (refl, (refl, (refl, (refl, tt))))) (left_as refl refl refl refl),
  gives (refl, (refl, (refl, tt))) (left_as refl refl refl refl, refl),
)
