-- What the functions compute is a run of the relations.
use Rattle.std.proofs.Common.{◌≡◌, ℕ, zero, suc, ◌+◌, ◌<◌, Bool, true, false, cond, ◌||◌, eqb, ltb, leb, List, [], ◌∷◌, length, ℤ, refl, subst, arith}
use mathlib.Core.Option.{Option, none, some, some-injective, none-ne-some}
use Rattle.std.proofs.lemmas.Bool.{ltb-true, ltb-false, leb-true, leb-false, eqb-true, eqb-false}
use Rattle.source.specs.declared.ObjectId.{ObjectId}
use Rattle.source.specs.Meaning.{Meaning, absent, failing, commit}
use Rattle.book.specs.declared.types.Denial.TheVariants as denial
use Rattle.book.specs.declared.types.Remark.{Remark}
use Rattle.model.specs.declared.Call.{Call}
use Rattle.model.specs.declared.Call.TheVariants.{KnownCommon, AddTip, NextHave, InCommonWithRemote, Note}
use Rattle.model.specs.declared.Reply.TheVariants.{Done, Have, NoneLeft, Told, Denied}
use Rattle.model.specs.Book.{Flags, SEEN, COMMON_REF_AND_SEEN, Waits, Marks, Walk, row, flags_at, drawn, stop, find, Source, place_mark, add_row}
use Rattle.model.specs.Steps
use Rattle.model.specs.Steps.{Looked, found, nothing, denied, Lookup, Res, ok, no, sees, common_at, taken, noted, Noted}
use Rattle.model.specs.Consecutive
use Rattle.model.specs.Consecutive.{entered, Push, commoned, alone, Marking, Mark, PushUnseen, passed_on, Pass, passes_both, Next, Ran}
use Rattle.model.proofs.Eval.{look, look_at, look_src, push_of, push_at, marking_of, mark_of, push_unseen_of, then, pass_of, Outcome, ends, next_of, note_at, ran_of}

pub by_bool : (b : Bool) (P : Type 0) → (b ≡ true → P) → (b ≡ false → P) → P
by_bool true P f g = f refl
by_bool false P f g = g refl

-- what one outcome is, the other is, where both are some
pub as_some : {A : Type 0} (P : A → Type 0) (x y : A) → some x ≡ some y → P x → P y
as_some P x y e p = subst P (some-injective x y e) p

pub look_sound : (src : Source) (s : Walk) (i : ObjectId) → Lookup src s i (look src s i)
look_sound src s i = go (find i s.rows) refl
  where
    room : (d : ℤ) (ps : List ObjectId) → find i s.rows ≡ none → src i ≡ commit d ps → (a b : Bool) → ltb (length s.rows) s.most_rows ≡ a → leb (s.links + length ps) s.most_links ≡ b
        → Lookup src s i (cond a (cond b (found (length s.rows) (add_row s i d ps)) (denied denial.LinksFull)) (denied denial.RowsFull))
    room d ps e c true true x y = Steps.Lookup.adds d ps e c (ltb-true (length s.rows) s.most_rows x) (leb-true (s.links + length ps) s.most_links y)
    room d ps e c true false x y = Steps.Lookup.short d ps e c (ltb-true (length s.rows) s.most_rows x) (leb-false (s.links + length ps) s.most_links y)
    room d ps e c false b x y = Steps.Lookup.full d ps e c (ltb-false (length s.rows) s.most_rows x)

    ask : find i s.rows ≡ none → (a : Meaning) → src i ≡ a → Lookup src s i (look_src s i a)
    ask e absent c = Steps.Lookup.lacks e c
    ask e (failing x) c = Steps.Lookup.fails x e c
    ask e (commit d ps) c = room d ps e c (ltb (length s.rows) s.most_rows) (leb (s.links + length ps) s.most_links) refl refl

    go : (o : Option ℕ) → find i s.rows ≡ o → Lookup src s i (look_at src s i o)
    go none e = ask e (src i) refl
    go (some k) e = Steps.Lookup.held k e

pub note_sound : (src : Source) (b : Remark) (i : ObjectId) (s : Walk) (o : Outcome) → note_at b s (look src s i) ≡ some o → Noted src s b i o.gave o.left
note_sound src b i s o x = go (look src s i) (look_sound src s i) x
  where
    go : (l : Looked) → Lookup src s i l → note_at b s l ≡ some o → Noted src s b i o.gave o.left
    go nothing l y = as_some (λ z. Noted src s b i z.gave z.left) (record { gave = Done; left = s }) o y (Noted.gone l)
    go (denied d) l y = as_some (λ z. Noted src s b i z.gave z.left) (record { gave = Denied d; left = stop s }) o y (Noted.barred l)
    go (found k t) l y = as_some (λ z. Noted src s b i z.gave z.left) (record { gave = Done; left = noted b t k }) o y (Noted.set_at l)

push_sound : (src : Source) (m : Flags) (i : ObjectId) (s : Walk) → Push src m i s (push_of src m i s)
push_sound src m i s = go (look src s i) (look_sound src s i)
  where
    go : (l : Looked) → Lookup src s i l → Push src m i s (push_at m s l)
    go (found k t) y = Consecutive.Push.enters k t y
    go nothing y = Consecutive.Push.passes y
    go (denied d) y = Consecutive.Push.denies d y

marking_sound : (src : Source) (all : Bool) (n g : ℕ) (ps : List ObjectId) (q : Marks) (s : Walk) (out : Res) → marking_of src all n g ps q s ≡ some out → Marking src all g ps q s out
marking_sound src all zero g ps q s out x = absurd (none-ne-some out x)
marking_sound src all (suc n) g [] [] s out x = as_some (Marking src all g [] [] s) (ok s) out x Consecutive.Marking.done
marking_sound src all (suc n) g [] (e ∷ q) s out x = by_bool (flags_at s e.value.row).seen (Marking src all g [] (e ∷ q) s out)
    (λ h. by_bool (all || ltb e.value.generation 2) (Marking src all g [] (e ∷ q) s out)
    (λ f. Consecutive.Marking.near h f (marking_sound src all n e.value.generation (row s e.value.row).parents q s out (rw f at (rw (h, marking_of) at x))))
    (λ f. Consecutive.Marking.far h f (marking_sound src all n g [] q s out (rw f at (rw (h, marking_of) at x)))))
    (λ h. Consecutive.Marking.unseen h (marking_sound src all n g [] q (entered SEEN s e.value.row) out (rw (h, marking_of) at x)))
marking_sound src all (suc n) g (p ∷ ps) q s out x = go (look src s p) refl (look_sound src s p) (λ t q'. marking_sound src all n g ps q' t out)
  where
    go : (l : Looked) → look src s p ≡ l → Lookup src s p l → ((t : Walk) (q' : Marks) → marking_of src all n g ps q' t ≡ some out → Marking src all g ps q' t out) → Marking src all g (p ∷ ps) q s out
    go nothing e y ih = Consecutive.Marking.lost y (ih s q (rw (e, marking_of) at x))
    go (denied d) e y ih = as_some (Marking src all g (p ∷ ps) q s) (no d (stop s)) out (rw (e, marking_of) at x) (Consecutive.Marking.barred y)
    go (found k t) e y ih = by_bool (flags_at t k).common (Marking src all g (p ∷ ps) q s out)
        (λ h. Consecutive.Marking.had y h (ih t q (rw h at (rw (e, marking_of) at x))))
        (λ h. Consecutive.Marking.gains y h (ih (commoned t k) (place_mark t.rows (record { row = k; generation = g + 1 }) q) (rw h at (rw (e, marking_of) at x))))

mark_sound : (src : Source) (itself all : Bool) (n : ℕ) (i : ObjectId) (s : Walk) (out : Res) → mark_of src itself all n i s ≡ some out → Mark src itself all i s out
mark_sound src itself all n i s out x = go (look src s i) refl (look_sound src s i)
  where
    go : (l : Looked) → look src s i ≡ l → Lookup src s i l → Mark src itself all i s out
    go nothing e y = as_some (Mark src itself all i s) (ok s) out (rw (e, mark_of) at x) (Consecutive.Mark.gone y)
    go (denied d) e y = as_some (Mark src itself all i s) (no d (stop s)) out (rw (e, mark_of) at x) (Consecutive.Mark.refused y)
    go (found k t) e y = by_bool (flags_at t k).common (Mark src itself all i s out)
        (λ h. as_some (Mark src itself all i s) (ok t) out (rw h at (rw (e, mark_of) at x)) (Consecutive.Mark.already y h))
        (λ h. by_bool itself (Mark src itself all i s out)
        (λ it. Consecutive.Mark.with_it it y h (marking_sound src all n 0 [] (alone t k) (commoned t k) out (rw it at (rw h at (rw (e, mark_of) at x)))))
        (λ it. Consecutive.Mark.without it y h (marking_sound src all n 0 [] (alone t k) t out (rw it at (rw h at (rw (e, mark_of) at x))))))

push_unseen_sound : (src : Source) (m : Flags) (i : ObjectId) (s : Walk) (out : Res) → push_unseen_of src m i s ≡ out → PushUnseen src m i s out
push_unseen_sound src m i s out x = by_bool (sees s i) (PushUnseen src m i s out)
    (λ h. subst (PushUnseen src m i s) (rw (h, push_unseen_of) at x) (Consecutive.PushUnseen.skips h))
    (λ h. Consecutive.PushUnseen.pushes h (subst (Push src m i s) (rw (h, push_unseen_of) at x) (push_sound src m i s)))

pass_sound : (src : Source) (both : Bool) (n : ℕ) (ps : List ObjectId) (s : Walk) (out : Res) → pass_of src both n ps s ≡ some out → Pass src both ps s out
pass_sound src both zero ps s out x = absurd (none-ne-some out x)
pass_sound src both (suc n) [] s out x = as_some (Pass src both [] s) (ok s) out x Consecutive.Pass.over
pass_sound src both (suc n) (p ∷ ps) s out x = go (push_unseen_of src (passed_on both) p s) refl (λ t. pass_sound src both n ps t out)
  where
    marks : (t : Walk) → PushUnseen src (passed_on both) p s (ok t) → both ≡ true → (o : Option Res) → mark_of src false true n p t ≡ o → then o (λ v. pass_of src both n ps v) ≡ some out
        → ((t : Walk) → pass_of src both n ps t ≡ some out → Pass src both ps t out) → Pass src both (p ∷ ps) s out
    marks t u b none f y ih = absurd (none-ne-some out y)
    marks t u b (some (ok v)) f y ih = Consecutive.Pass.marked b u (mark_sound src false true n p t (ok v) f) (ih v y)
    marks t u b (some (no d v)) f y ih = as_some (Pass src both (p ∷ ps) s) (no d v) out y (Consecutive.Pass.halted b u (mark_sound src false true n p t (no d v) f))

    on : (t : Walk) → PushUnseen src (passed_on both) p s (ok t) → (c : Bool) → both ≡ c → (elim c as (λ z. Option Res) [ false ↦ pass_of src both n ps t | true ↦ then (mark_of src false true n p t) (λ u. pass_of src both n ps u) ]) ≡ some out
        → ((t : Walk) → pass_of src both n ps t ≡ some out → Pass src both ps t out) → Pass src both (p ∷ ps) s out
    on t u true b y ih = marks t u b (mark_of src false true n p t) refl y ih
    on t u false b y ih = Consecutive.Pass.plain b u (ih t y)

    go : (r : Res) → push_unseen_of src (passed_on both) p s ≡ r → ((t : Walk) → pass_of src both n ps t ≡ some out → Pass src both ps t out) → Pass src both (p ∷ ps) s out
    go (no d t) e ih = as_some (Pass src both (p ∷ ps) s) (no d t) out (rw (e, pass_of) at x) (Consecutive.Pass.stuck (push_unseen_sound src (passed_on both) p s (no d t) e))
    go (ok t) e ih = on t (push_unseen_sound src (passed_on both) p s (ok t) e) both refl (rw (e, pass_of) at x) ih

abbrev NextOf : Source → Walk → Outcome → Type 0
NextOf src s o = Next src s o.gave o.left

next_sound : (src : Source) (n : ℕ) (s : Walk) (o : Outcome) → next_of src n s ≡ some o → Next src s o.gave o.left
next_sound src zero s o x = absurd (none-ne-some o x)
next_sound src (suc n) s o x = go s.queue refl (λ t. next_sound src n t o)
  where
    go : (q : Waits) → s.queue ≡ q → ((t : Walk) → next_of src n t ≡ some o → Next src t o.gave o.left) → Next src s o.gave o.left
    go [] e ih = as_some (NextOf src s) (record { gave = NoneLeft; left = s }) o (rw (e, next_of) at x) (Consecutive.Next.empty e)
    go (z₀ ∷ q) e ih = by_bool (eqb s.count 0) (Next src s o.gave o.left)
        (λ z. as_some (NextOf src s) (record { gave = NoneLeft; left = drawn s q }) o (rw z at (rw (e, next_of) at x)) (Consecutive.Next.spent e (eqb-true s.count 0 z)))
        (λ z. passed (some_count z) (pass_of src (passes_both (flags_at s z₀.value)) n (row s z₀.value).parents (taken s z₀.value q)) refl (rw z at (rw (e, next_of) at x)))
      where
        some_count : eqb s.count 0 ≡ false → 0 < s.count
        some_count z = let y = eqb-false s.count 0 z in omega (arith, y)

        passed : 0 < s.count → (r : Option Res) → pass_of src (passes_both (flags_at s z₀.value)) n (row s z₀.value).parents (taken s z₀.value q) ≡ r
            → ends r (λ v. elim (flags_at s z₀.value).common [ true ↦ next_of src n v | false ↦ some (record { gave = Have z₀.value; left = v }) ]) ≡ some o → Next src s o.gave o.left
        passed z none f y = absurd (none-ne-some o y)
        passed z (some (no d v)) f y = as_some (NextOf src s) (record { gave = Denied d; left = v }) o y
            (Consecutive.Next.stops e z (pass_sound src (passes_both (flags_at s z₀.value)) n (row s z₀.value).parents (taken s z₀.value q) (no d v) f))
        passed z (some (ok v)) f y = by_bool (flags_at s z₀.value).common (Next src s o.gave o.left)
            (λ c. Consecutive.Next.goes_on e z c (pass_sound src (passes_both (flags_at s z₀.value)) n (row s z₀.value).parents (taken s z₀.value q) (ok v) f) (ih v (rw c at y)))
            (λ c. as_some (NextOf src s) (record { gave = Have z₀.value; left = v }) o (rw c at y)
            (Consecutive.Next.answers e z c (pass_sound src (passes_both (flags_at s z₀.value)) n (row s z₀.value).parents (taken s z₀.value q) (ok v) f)))

abbrev RanOf : Source → Walk → Call → Outcome → Type 0
RanOf src s c o = Ran src s c o.gave o.left

pub ran_sound : (src : Source) (n : ℕ) (s : Walk) (c : Call) (o : Outcome) → ran_of src n s c ≡ some o → Ran src s c o.gave o.left
ran_sound src n s (AddTip i) o x = go (push_of src SEEN i s) (push_sound src SEEN i s) x
  where
    go : (r : Res) → Push src SEEN i s r → ends (some r) (λ t. some (record { gave = Done; left = t })) ≡ some o → Ran src s (AddTip i) o.gave o.left
    go (ok t) p y = as_some (RanOf src s (AddTip i)) (record { gave = Done; left = t }) o y (Consecutive.Ran.tip_ok p)
    go (no d t) p y = as_some (RanOf src s (AddTip i)) (record { gave = Denied d; left = t }) o y (Consecutive.Ran.tip_no p)
ran_sound src n s (KnownCommon i) o x = by_bool (sees s i) (Ran src s (KnownCommon i) o.gave o.left)
    (λ h. as_some (RanOf src s (KnownCommon i)) (record { gave = Done; left = s }) o (rw (h, ran_of) at x) (Consecutive.Ran.known_seen h))
    (λ h. go h (push_of src COMMON_REF_AND_SEEN i s) (push_sound src COMMON_REF_AND_SEEN i s) (rw (h, ran_of) at x))
  where
    then_mark : sees s i ≡ false → (t : Walk) → Push src COMMON_REF_AND_SEEN i s (ok t) → (r : Option Res) → mark_of src false false n i t ≡ r
        → ends r (λ u. some (record { gave = Done; left = u })) ≡ some o → Ran src s (KnownCommon i) o.gave o.left
    then_mark h t p none e y = absurd (none-ne-some o y)
    then_mark h t p (some (ok u)) e y = as_some (RanOf src s (KnownCommon i)) (record { gave = Done; left = u }) o y (Consecutive.Ran.known_ok h p (mark_sound src false false n i t (ok u) e))
    then_mark h t p (some (no d u)) e y = as_some (RanOf src s (KnownCommon i)) (record { gave = Denied d; left = u }) o y (Consecutive.Ran.known_halt h p (mark_sound src false false n i t (no d u) e))

    go : sees s i ≡ false → (r : Res) → Push src COMMON_REF_AND_SEEN i s r → ends (some r) (λ t. ends (mark_of src false false n i t) (λ u. some (record { gave = Done; left = u }))) ≡ some o → Ran src s (KnownCommon i) o.gave o.left
    go h (ok t) p y = then_mark h t p (mark_of src false false n i t) refl y
    go h (no d t) p y = as_some (RanOf src s (KnownCommon i)) (record { gave = Denied d; left = t }) o y (Consecutive.Ran.known_no h p)
ran_sound src n s (InCommonWithRemote i) o x = go (mark_of src true false n i s) refl x
  where
    go : (r : Option Res) → mark_of src true false n i s ≡ r → ends r (λ t. some (record { gave = Told (common_at s (find i s.rows)); left = t })) ≡ some o → Ran src s (InCommonWithRemote i) o.gave o.left
    go none e y = absurd (none-ne-some o y)
    go (some (ok u)) e y = as_some (RanOf src s (InCommonWithRemote i)) (record { gave = Told (common_at s (find i s.rows)); left = u }) o y (Consecutive.Ran.ack_ok (mark_sound src true false n i s (ok u) e))
    go (some (no d u)) e y = as_some (RanOf src s (InCommonWithRemote i)) (record { gave = Denied d; left = u }) o y (Consecutive.Ran.ack_no (mark_sound src true false n i s (no d u) e))
ran_sound src n s (Note i b) o x = Consecutive.Ran.notes (note_sound src b i s o x)
ran_sound src n s NextHave o x = Consecutive.Ran.next_have (next_sound src n s o x)
