-- The skipping steps as functions, with fuel for the loops, and the calls of noop.
use Rattle.std.proofs.Common.{ℕ, zero, suc, Bool, true, false, ◌||◌, eqb, List, [], ◌∷◌}
use mathlib.Core.Option.{Option, none, some}
use Rattle.source.specs.declared.ObjectId.{ObjectId}
use Rattle.book.specs.declared.types.Denial.TheVariants as denial
use Rattle.model.specs.declared.Call.{Call}
use Rattle.model.specs.declared.Call.TheVariants.{KnownCommon, AddTip, NextHave, InCommonWithRemote, Note}
use Rattle.model.specs.declared.Reply.TheVariants.{Done, Have, NoneLeft, Told, Denied}
use Rattle.model.specs.Book.{Flags, SEEN, ADVERTISED_AND_SEEN, Row, Marks, Walk, row, flags_at, drawn, stop, find, Source, place_mark}
use Rattle.model.specs.Steps.{Looked, found, nothing, denied, Res, ok, no, sees, taken, common_at}
use Rattle.model.specs.Skipping.{queued, shared, relieved, at_row, alone, numbered, pops, shares, offers}
use Rattle.model.proofs.Eval.{look, Outcome, outcome, ends, note_at}

abbrev pub add_at : Flags → Walk → Looked → Res
add_at m s (found k t) = ok (queued m t k)
add_at m s nothing = ok s
add_at m s (denied d) = no d (stop s)

abbrev pub add_unseen_of : Source → Flags → ObjectId → Walk → Res
add_unseen_of src m i s = elim (sees s i) [ true ↦ ok s | false ↦ add_at m s (look src s i) ]

abbrev pub spread_of : ℕ → List ObjectId → Marks → Walk → Option Walk
spread_of zero ps q s = none
spread_of (suc n) [] [] s = some s
spread_of (suc n) [] (e ∷ q) s = spread_of n (row s e.value.row).parents q (relieved s e.value.row)
spread_of (suc n) (p ∷ ps) q s = elim (find p s.rows) [
  | none ↦ spread_of n ps q s
  | some k ↦ elim (flags_at s k).common [
    | true ↦ spread_of n ps q s
    | false ↦ elim (flags_at s k).seen [
      | false ↦ spread_of n ps q (shared s k)
      | true ↦ spread_of n ps (place_mark s.rows (at_row k) q) (shared s k)
    ]
  ]
]

abbrev pub fine : Option Walk → Option Res
fine none = none
fine (some t) = some (ok t)

abbrev pub mark_of : Source → ℕ → ObjectId → Walk → Option Res
mark_of src n i s = elim (look src s i) [
  | nothing ↦ some (ok s)
  | denied d ↦ some (no d (stop s))
  | found k t ↦ elim (flags_at t k).common [ true ↦ some (ok t) | false ↦ fine (spread_of n [] (alone t k) (shared t k)) ]
]

-- whether a parent was pushed, and how it ended
pub record Push : Type 0 where
  pub pushed : Bool
  pub end : Res

abbrev pub push : Bool → Res → Option Push
push b r = some (record { pushed = b; end = r })

abbrev pub pushed_mark : Option Res → Option Push
pushed_mark none = none
pushed_mark (some (ok t)) = push true (ok t)
pushed_mark (some (no d t)) = push false (no d t)

abbrev pub handed : Row → Walk → Option ℕ → Option Push
handed r s none = push false (no denial.MissingParent (stop s))
handed r s (some k) = push true (ok (numbered r.original r.ttl s k))

abbrev pub added : Source → ℕ → Row → ObjectId → Res → Option Push
added src n r p (no d t) = push false (no d t)
added src n r p (ok t) = elim (shares r.flags) [ true ↦ pushed_mark (mark_of src n p t) | false ↦ handed r t (find p t.rows) ]

abbrev pub push_parent_of : Source → ℕ → Row → ObjectId → Walk → Option Push
push_parent_of src n r p s = elim (pops s p) [ true ↦ push false (ok s) | false ↦ added src n r p (add_unseen_of src SEEN p s) ]

abbrev pub or_more : Bool → Option Push → Option Push
or_more b none = none
or_more b (some x) = push (b || x.pushed) x.end

abbrev pub then_hand : (Walk → Option Push) → Option Push → Option Push
then_hand f none = none
then_hand f (some x) = elim x.end [ no d t ↦ push false (no d t) | ok t ↦ or_more x.pushed (f t) ]

abbrev pub hand_of : Source → ℕ → Row → List ObjectId → Walk → Option Push
hand_of src n r [] s = push false (ok s)
hand_of src n r (p ∷ ps) s = then_hand (λ t. hand_of src n r ps t) (push_parent_of src n r p s)

abbrev pub then_offer : (Bool → Walk → Option Outcome) → Option Push → Option Outcome
then_offer f none = none
then_offer f (some x) = elim x.end [ no d t ↦ outcome (Denied d) t | ok t ↦ f x.pushed t ]

abbrev pub next_of : Source → ℕ → Walk → Option Outcome
next_of src zero s = none
next_of src (suc n) s = elim s.queue [
  | [] ↦ outcome NoneLeft s
  | e ∷ q ↦ elim (eqb s.count 0) [
    | true ↦ outcome NoneLeft (drawn s q)
    | false ↦ then_offer (λ b t. elim (offers (row s e.value) b) [ true ↦ outcome (Have e.value) t | false ↦ next_of src n t ])
        (hand_of src n (row s e.value) (row s e.value).parents (taken s e.value q))
  ]
]

abbrev pub ran_of : Source → ℕ → Walk → Call → Option Outcome
ran_of src n s (AddTip i) = ends (some (add_unseen_of src SEEN i s)) (outcome Done)
ran_of src n s (KnownCommon i) = ends (some (add_unseen_of src ADVERTISED_AND_SEEN i s)) (outcome Done)
ran_of src n s (InCommonWithRemote i) = elim (sees s i) [
  | false ↦ outcome (Denied denial.NotSeen) s
  | true ↦ ends (mark_of src n i s) (outcome (Told (common_at s (find i s.rows))))
]
ran_of src n s (Note i r) = note_at r s (look src s i)
ran_of src n s NextHave = next_of src n s

abbrev pub noop_of : Source → Walk → Call → Option Outcome
noop_of src s (AddTip i) = outcome Done s
noop_of src s (KnownCommon i) = outcome Done s
noop_of src s (InCommonWithRemote i) = outcome (Told false) s
noop_of src s (Note i r) = note_at r s (look src s i)
noop_of src s NextHave = outcome NoneLeft s
