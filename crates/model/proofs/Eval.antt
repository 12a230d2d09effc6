-- The same steps as functions, with fuel for the loops: for worked walks.
use Rattle.std.proofs.Common.{ℕ, zero, suc, ◌+◌, Bool, true, false, cond, ◌||◌, eqb, ltb, leb, List, [], ◌∷◌, length}
use mathlib.Core.Option.{Option, none, some}
use Rattle.source.specs.declared.ObjectId.{ObjectId}
use Rattle.book.specs.declared.types.Remark.{Remark}
use Rattle.book.specs.declared.types.Denial.TheVariants as denial
use Rattle.source.specs.Meaning.{Meaning, absent, failing, commit}
use Rattle.model.specs.Book.{Marks, Flags, SEEN, COMMON_REF_AND_SEEN, Walk, row, flags_at, drawn, stop, add_row, find, Source, place_mark}
use Rattle.model.specs.Steps.{Looked, found, nothing, denied, Res, ok, no, sees, taken, noted, common_at}
use Rattle.model.specs.Consecutive.{entered, commoned, passed_on, alone, passes_both}
use Rattle.model.specs.declared.Call.{Call}
use Rattle.model.specs.declared.Call.TheVariants.{KnownCommon, AddTip, NextHave, InCommonWithRemote, Note}
use Rattle.model.specs.declared.Reply.{Reply}
use Rattle.model.specs.declared.Reply.TheVariants.{Done, Have, NoneLeft, Told, Denied}

abbrev pub look_src : Walk → ObjectId → Meaning → Looked
look_src s i absent = nothing
look_src s i (failing e) = denied (denial.Failing e)
look_src s i (commit d ps) = cond (ltb (length s.rows) s.most_rows) (cond (leb (s.links + length ps) s.most_links) (found (length s.rows) (add_row s i d ps)) (denied denial.LinksFull)) (denied denial.RowsFull)

abbrev pub look_at : Source → Walk → ObjectId → Option ℕ → Looked
look_at src s i none = look_src s i (src i)
look_at src s i (some k) = found k s

abbrev pub look : Source → Walk → ObjectId → Looked
look src s i = look_at src s i (find i s.rows)

abbrev pub push_at : Flags → Walk → Looked → Res
push_at m s (found k t) = ok (entered m t k)
push_at m s nothing = ok s
push_at m s (denied d) = no d (stop s)

abbrev pub push_of : Source → Flags → ObjectId → Walk → Res
push_of src m i s = push_at m s (look src s i)

abbrev pub marking_of : Source → Bool → ℕ → ℕ → List ObjectId → Marks → Walk → Option Res
marking_of src all zero g ps q s = none
marking_of src all (suc n) g [] [] s = some (ok s)
marking_of src all (suc n) g [] (e ∷ q) s = elim (flags_at s e.value.row).seen [
  | false ↦ marking_of src all n g [] q (entered SEEN s e.value.row)
  | true ↦ elim (all || ltb e.value.generation 2) [
    | true ↦ marking_of src all n e.value.generation (row s e.value.row).parents q s
    | false ↦ marking_of src all n g [] q s
  ]
]
marking_of src all (suc n) g (p ∷ ps) q s = elim (look src s p) [
  | nothing ↦ marking_of src all n g ps q s
  | denied d ↦ some (no d (stop s))
  | found k t ↦ elim (flags_at t k).common [
    | true ↦ marking_of src all n g ps q t
    | false ↦ marking_of src all n g ps (place_mark t.rows (record { row = k; generation = g + 1 }) q) (commoned t k)
  ]
]

abbrev pub mark_of : Source → Bool → Bool → ℕ → ObjectId → Walk → Option Res
mark_of src itself all n i s = elim (look src s i) [
  | nothing ↦ some (ok s)
  | denied d ↦ some (no d (stop s))
  | found k t ↦ elim (flags_at t k).common [
    | true ↦ some (ok t)
    | false ↦ marking_of src all n 0 [] (alone t k) (cond itself (commoned t k) t)
  ]
]

abbrev pub push_unseen_of : Source → Flags → ObjectId → Walk → Res
push_unseen_of src m i s = elim (sees s i) [ true ↦ ok s | false ↦ push_of src m i s ]

abbrev pub then : Option Res → (Walk → Option Res) → Option Res
then none f = none
then (some (ok t)) f = f t
then (some (no d t)) f = some (no d t)

abbrev pub pass_of : Source → Bool → ℕ → List ObjectId → Walk → Option Res
pass_of src both zero ps s = none
pass_of src both (suc n) [] s = some (ok s)
pass_of src both (suc n) (p ∷ ps) s = elim (push_unseen_of src (passed_on both) p s) [
  | no d t ↦ some (no d t)
  | ok t ↦ elim both [ false ↦ pass_of src both n ps t | true ↦ then (mark_of src false true n p t) (λ u. pass_of src both n ps u) ]
]

pub record Outcome : Type 0 where
  pub gave : Reply
  pub left : Walk

abbrev pub outcome : Reply → Walk → Option Outcome
outcome a s = some (record { gave = a; left = s })

abbrev pub ends : Option Res → (Walk → Option Outcome) → Option Outcome
ends none f = none
ends (some (ok t)) f = f t
ends (some (no d t)) f = outcome (Denied d) t

abbrev pub next_of : Source → ℕ → Walk → Option Outcome
next_of src zero s = none
next_of src (suc n) s = elim s.queue [
  | [] ↦ outcome NoneLeft s
  | e ∷ q ↦ elim (eqb s.count 0) [
    | true ↦ outcome NoneLeft (drawn s q)
    | false ↦ ends (pass_of src (passes_both (flags_at s e.value)) n (row s e.value).parents (taken s e.value q))
        (λ t. elim (flags_at s e.value).common [ true ↦ next_of src n t | false ↦ outcome (Have e.value) t ])
  ]
]

abbrev pub note_at : Remark → Walk → Looked → Option Outcome
note_at r s nothing = outcome Done s
note_at r s (denied d) = outcome (Denied d) (stop s)
note_at r s (found k t) = outcome Done (noted r t k)

abbrev pub ran_of : Source → ℕ → Walk → Call → Option Outcome
ran_of src n s (KnownCommon i) = elim (sees s i) [
  | true ↦ outcome Done s
  | false ↦ ends (some (push_of src COMMON_REF_AND_SEEN i s)) (λ t. ends (mark_of src false false n i t) (outcome Done))
]
ran_of src n s (AddTip i) = ends (some (push_of src SEEN i s)) (outcome Done)
ran_of src n s NextHave = next_of src n s
ran_of src n s (InCommonWithRemote i) = ends (mark_of src true false n i s) (outcome (Told (common_at s (find i s.rows))))
ran_of src n s (Note i r) = note_at r s (look src s i)
