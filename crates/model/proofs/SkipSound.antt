-- What the skipping functions, and noop's, compute is a run of the relations.
use Rattle.std.proofs.Common.{◌≡◌, ℕ, zero, suc, ◌<◌, Bool, true, false, ◌||◌, eqb, List, [], ◌∷◌, refl, subst, arith}
use mathlib.Core.Option.{Option, none, some, none-ne-some}
use Rattle.std.proofs.lemmas.Bool.{eqb-true, eqb-false}
use Rattle.source.specs.declared.ObjectId.{ObjectId}
use Rattle.book.specs.declared.types.Denial.TheVariants as denial
use Rattle.model.specs.declared.Call.{Call}
use Rattle.model.specs.declared.Call.TheVariants.{KnownCommon, AddTip, NextHave, InCommonWithRemote, Note}
use Rattle.model.specs.declared.Reply.TheVariants.{Done, Have, NoneLeft, Told, Denied}
use Rattle.model.specs.Book.{Flags, SEEN, ADVERTISED_AND_SEEN, Row, Waits, Marks, Walk, row, flags_at, drawn, stop, find, Source, place_mark}
use Rattle.model.specs.Steps.{Looked, found, nothing, denied, Lookup, Res, ok, no, sees, taken, common_at}
use Rattle.model.specs.Skipping
use Rattle.model.specs.Skipping.{shared, relieved, at_row, alone, numbered, pops, shares, offers, Add, AddUnseen, Spread, Mark, PushParent, Hand, Next, Ran}
use Rattle.model.specs.Noop
use Rattle.model.proofs.Eval.{look, Outcome, ends}
use Rattle.model.proofs.SkipEval.{add_at, add_unseen_of, spread_of, fine, mark_of, Push, pushed_mark, handed, added, push_parent_of, or_more, then_hand, hand_of, then_offer, next_of, ran_of, noop_of}
use Rattle.model.proofs.Sound.{by_bool, as_some, look_sound, note_sound}

add_unseen_sound : (src : Source) (m : Flags) (i : ObjectId) (s : Walk) (out : Res) → add_unseen_of src m i s ≡ out → AddUnseen src m i s out
add_unseen_sound src m i s out x = by_bool (sees s i) (AddUnseen src m i s out)
    (λ h. subst (AddUnseen src m i s) (rw (h, add_unseen_of) at x) (Skipping.AddUnseen.skips h))
    (λ h. Skipping.AddUnseen.pushes h (subst (Add src m i s) (rw (h, add_unseen_of) at x) (go (look src s i) (look_sound src s i))))
  where
    go : (l : Looked) → Lookup src s i l → Add src m i s (add_at m s l)
    go (found k t) y = Skipping.Add.enters y
    go nothing y = Skipping.Add.passes y
    go (denied d) y = Skipping.Add.denies y

spread_sound : (n : ℕ) (ps : List ObjectId) (q : Marks) (s t : Walk) → spread_of n ps q s ≡ some t → Spread ps q s t
spread_sound zero ps q s t x = absurd (none-ne-some t x)
spread_sound (suc n) [] [] s t x = as_some (Spread [] [] s) s t x Skipping.Spread.finished
spread_sound (suc n) [] (e ∷ q) s t x = Skipping.Spread.draw (spread_sound n (row s e.value.row).parents q (relieved s e.value.row) t x)
spread_sound (suc n) (p ∷ ps) q s t x = go (find p s.rows) refl (λ u q'. spread_sound n ps q' u t)
  where
    go : (o : Option ℕ) → find p s.rows ≡ o → ((u : Walk) (q' : Marks) → spread_of n ps q' u ≡ some t → Spread ps q' u t) → Spread (p ∷ ps) q s t
    go none e ih = Skipping.Spread.lacks e (ih s q (rw (e, spread_of) at x))
    go (some k) e ih = by_bool (flags_at s k).common (Spread (p ∷ ps) q s t)
        (λ c. Skipping.Spread.had e c (ih s q (rw c at (rw (e, spread_of) at x))))
        (λ c. by_bool (flags_at s k).seen (Spread (p ∷ ps) q s t)
        (λ se. Skipping.Spread.gains e c se (ih (shared s k) (place_mark s.rows (at_row k) q) (rw se at (rw c at (rw (e, spread_of) at x)))))
        (λ se. Skipping.Spread.unseen e c se (ih (shared s k) q (rw se at (rw c at (rw (e, spread_of) at x))))))

mark_sound : (src : Source) (n : ℕ) (i : ObjectId) (s : Walk) (out : Res) → mark_of src n i s ≡ some out → Mark src i s out
mark_sound src n i s out x = go (look src s i) refl (look_sound src s i)
  where
    go : (l : Looked) → look src s i ≡ l → Lookup src s i l → Mark src i s out
    go nothing e y = as_some (Mark src i s) (ok s) out (rw (e, mark_of) at x) (Skipping.Mark.gone y)
    go (denied d) e y = as_some (Mark src i s) (no d (stop s)) out (rw (e, mark_of) at x) (Skipping.Mark.barred y)
    go (found k t) e y = by_bool (flags_at t k).common (Mark src i s out)
        (λ h. as_some (Mark src i s) (ok t) out (rw h at (rw (e, mark_of) at x)) (Skipping.Mark.already y h))
        (λ h. on h (spread_of n [] (alone t k) (shared t k)) refl (rw h at (rw (e, mark_of) at x)))
      where
        on : (flags_at t k).common ≡ false → (o : Option Walk) → spread_of n [] (alone t k) (shared t k) ≡ o → fine o ≡ some out → Mark src i s out
        on h none z v = absurd (none-ne-some out v)
        on h (some u) z v = as_some (Mark src i s) (ok u) out v (Skipping.Mark.spreads y h (spread_sound n [] (alone t k) (shared t k) u z))

abbrev PushOf : Source → Row → ObjectId → Walk → Push → Type 0
PushOf src r p s o = PushParent src r p s o.pushed o.end

push_sound : (src : Source) (n : ℕ) (r : Row) (p : ObjectId) (s : Walk) (o : Push) → push_parent_of src n r p s ≡ some o → PushParent src r p s o.pushed o.end
push_sound src n r p s o x = by_bool (pops s p) (PushOf src r p s o)
    (λ h. as_some (PushOf src r p s) (record { pushed = false; end = ok s }) o (rw (h, push_parent_of) at x) (Skipping.PushParent.popped h))
    (λ h. go h (add_unseen_of src SEEN p s) refl (rw (h, push_parent_of) at x))
  where
    marks : pops s p ≡ false → (t : Walk) → AddUnseen src SEEN p s (ok t) → shares r.flags ≡ true → (m : Option Res) → mark_of src n p t ≡ m → pushed_mark m ≡ some o → PushOf src r p s o
    marks h t a sh none e y = absurd (none-ne-some o y)
    marks h t a sh (some (ok u)) e y = as_some (PushOf src r p s) (record { pushed = true; end = ok u }) o y (Skipping.PushParent.marked h a sh (mark_sound src n p t (ok u) e))
    marks h t a sh (some (no d u)) e y = as_some (PushOf src r p s) (record { pushed = false; end = no d u }) o y (Skipping.PushParent.halted h a sh (mark_sound src n p t (no d u) e))

    hand : pops s p ≡ false → (t : Walk) → AddUnseen src SEEN p s (ok t) → shares r.flags ≡ false → (m : Option ℕ) → find p t.rows ≡ m → handed r t m ≡ some o → PushOf src r p s o
    hand h t a sh none e y = as_some (PushOf src r p s) (record { pushed = false; end = no denial.MissingParent (stop t) }) o y (Skipping.PushParent.lost h a sh e)
    hand h t a sh (some k) e y = as_some (PushOf src r p s) (record { pushed = true; end = ok (numbered r.original r.ttl t k) }) o y (Skipping.PushParent.hands h a sh e)

    go : pops s p ≡ false → (out : Res) → add_unseen_of src SEEN p s ≡ out → added src n r p out ≡ some o → PushOf src r p s o
    go h (no d t) e y = as_some (PushOf src r p s) (record { pushed = false; end = no d t }) o y (Skipping.PushParent.stuck h (add_unseen_sound src SEEN p s (no d t) e))
    go h (ok t) e y = by_bool (shares r.flags) (PushOf src r p s o)
        (λ sh. marks h t (add_unseen_sound src SEEN p s (ok t) e) sh (mark_of src n p t) refl (rw (sh, added) at y))
        (λ sh. hand h t (add_unseen_sound src SEEN p s (ok t) e) sh (find p t.rows) refl (rw (sh, added) at y))

abbrev HandOf : Source → Row → List ObjectId → Walk → Push → Type 0
HandOf src r ps s o = Hand src r ps s o.pushed o.end

hand_sound : (src : Source) (n : ℕ) (r : Row) (ps : List ObjectId) (s : Walk) (o : Push) → hand_of src n r ps s ≡ some o → HandOf src r ps s o
hand_sound src n r [] s o x = as_some (HandOf src r [] s) (record { pushed = false; end = ok s }) o x Skipping.Hand.over
hand_sound src n r (p ∷ ps) s o x = go (push_parent_of src n r p s) refl x (hand_sound src n r ps)
  where
    more : (b : Bool) (t : Walk) → PushParent src r p s b (ok t) → (m : Option Push) → hand_of src n r ps t ≡ m → or_more b m ≡ some o → ((u : Walk) (z : Push) → hand_of src n r ps u ≡ some z → HandOf src r ps u z) → HandOf src r (p ∷ ps) s o
    more b t a none e y ih = absurd (none-ne-some o y)
    more b t a (some z) e y ih = as_some (HandOf src r (p ∷ ps) s) (record { pushed = b || z.pushed; end = z.end }) o y (Skipping.Hand.on a (ih t z e))

    pick : (b : Bool) (e : Res) → PushParent src r p s b e → then_hand (λ t. hand_of src n r ps t) (some (record { pushed = b; end = e })) ≡ some o → ((u : Walk) (z : Push) → hand_of src n r ps u ≡ some z → HandOf src r ps u z) → HandOf src r (p ∷ ps) s o
    pick b (no d t) a y ih = as_some (HandOf src r (p ∷ ps) s) (record { pushed = false; end = no d t }) o y (Skipping.Hand.stuck a)
    pick b (ok t) a y ih = more b t a (hand_of src n r ps t) refl y ih

    go : (m : Option Push) → push_parent_of src n r p s ≡ m → then_hand (λ t. hand_of src n r ps t) m ≡ some o → ((u : Walk) (z : Push) → hand_of src n r ps u ≡ some z → HandOf src r ps u z) → HandOf src r (p ∷ ps) s o
    go none e y ih = absurd (none-ne-some o y)
    go (some z) e y ih = pick z.pushed z.end (push_sound src n r p s z e) y ih

abbrev NextOf : Source → Walk → Outcome → Type 0
NextOf src s o = Next src s o.gave o.left

next_sound : (src : Source) (n : ℕ) (s : Walk) (o : Outcome) → next_of src n s ≡ some o → NextOf src s o
next_sound src zero s o x = absurd (none-ne-some o x)
next_sound src (suc n) s o x = go s.queue refl (λ t. next_sound src n t o)
  where
    go : (q : Waits) → s.queue ≡ q → ((t : Walk) → next_of src n t ≡ some o → NextOf src t o) → NextOf src s o
    go [] e ih = as_some (NextOf src s) (record { gave = NoneLeft; left = s }) o (rw (e, next_of) at x) (Skipping.Next.empty e)
    go (x₀ ∷ q) e ih = by_bool (eqb s.count 0) (NextOf src s o)
        (λ z. as_some (NextOf src s) (record { gave = NoneLeft; left = drawn s q }) o (rw z at (rw (e, next_of) at x)) (Skipping.Next.spent e (eqb-true s.count 0 z)))
        (λ z. passed (some_count z) (hand_of src n (row s x₀.value) (row s x₀.value).parents (taken s x₀.value q)) refl (rw z at (rw (e, next_of) at x)))
      where
        some_count : eqb s.count 0 ≡ false → 0 < s.count
        some_count z = let y = eqb-false s.count 0 z in omega (arith, y)

        last : Bool → Walk → Option Outcome
        last b t = elim (offers (row s x₀.value) b) [ true ↦ some (record { gave = Have x₀.value; left = t }) | false ↦ next_of src n t ]

        pick : 0 < s.count → (b : Bool) (e : Res) → Hand src (row s x₀.value) (row s x₀.value).parents (taken s x₀.value q) b e → then_offer last (some (record { pushed = b; end = e })) ≡ some o → NextOf src s o
        pick z b (no d v) m y = as_some (NextOf src s) (record { gave = Denied d; left = v }) o y (Skipping.Next.stops e z m)
        pick z b (ok v) m y = by_bool (offers (row s x₀.value) b) (NextOf src s o)
            (λ f. as_some (NextOf src s) (record { gave = Have x₀.value; left = v }) o (subst (λ (g : Bool). (elim g as (λ x. Option Outcome) [ true ↦ some (record { gave = Have x₀.value; left = v }) | false ↦ next_of src n v ]) ≡ some o) f y) (Skipping.Next.answers e z m f))
            (λ f. Skipping.Next.goes_on e z m f (ih v (subst (λ (g : Bool). (elim g as (λ x. Option Outcome) [ true ↦ some (record { gave = Have x₀.value; left = v }) | false ↦ next_of src n v ]) ≡ some o) f y)))

        passed : 0 < s.count → (m : Option Push) → hand_of src n (row s x₀.value) (row s x₀.value).parents (taken s x₀.value q) ≡ m → then_offer last m ≡ some o → NextOf src s o
        passed z none f y = absurd (none-ne-some o y)
        passed z (some v) f y = pick z v.pushed v.end (hand_sound src n (row s x₀.value) (row s x₀.value).parents (taken s x₀.value q) v f) y

abbrev RanOf : Source → Walk → Call → Outcome → Type 0
RanOf src s c o = Ran src s c o.gave o.left

pub skip_sound : (src : Source) (n : ℕ) (s : Walk) (c : Call) (o : Outcome) → ran_of src n s c ≡ some o → Ran src s c o.gave o.left
skip_sound src n s (AddTip i) o x = go (add_unseen_of src SEEN i s) refl x
  where
    go : (r : Res) → add_unseen_of src SEEN i s ≡ r → ends (some r) (λ t. some (record { gave = Done; left = t })) ≡ some o → RanOf src s (AddTip i) o
    go (ok t) p y = as_some (RanOf src s (AddTip i)) (record { gave = Done; left = t }) o y (Skipping.Ran.tip_ok (add_unseen_sound src SEEN i s (ok t) p))
    go (no d t) p y = as_some (RanOf src s (AddTip i)) (record { gave = Denied d; left = t }) o y (Skipping.Ran.tip_no (add_unseen_sound src SEEN i s (no d t) p))
skip_sound src n s (KnownCommon i) o x = go (add_unseen_of src ADVERTISED_AND_SEEN i s) refl x
  where
    go : (r : Res) → add_unseen_of src ADVERTISED_AND_SEEN i s ≡ r → ends (some r) (λ t. some (record { gave = Done; left = t })) ≡ some o → RanOf src s (KnownCommon i) o
    go (ok t) p y = as_some (RanOf src s (KnownCommon i)) (record { gave = Done; left = t }) o y (Skipping.Ran.known_ok (add_unseen_sound src ADVERTISED_AND_SEEN i s (ok t) p))
    go (no d t) p y = as_some (RanOf src s (KnownCommon i)) (record { gave = Denied d; left = t }) o y (Skipping.Ran.known_no (add_unseen_sound src ADVERTISED_AND_SEEN i s (no d t) p))
skip_sound src n s (InCommonWithRemote i) o x = by_bool (sees s i) (RanOf src s (InCommonWithRemote i) o)
    (λ h. go h (mark_of src n i s) refl (rw (h, ran_of) at x))
    (λ h. as_some (RanOf src s (InCommonWithRemote i)) (record { gave = Denied denial.NotSeen; left = s }) o (rw (h, ran_of) at x) (Skipping.Ran.ack_unseen h))
  where
    go : sees s i ≡ true → (r : Option Res) → mark_of src n i s ≡ r → ends r (λ t. some (record { gave = Told (common_at s (find i s.rows)); left = t })) ≡ some o → RanOf src s (InCommonWithRemote i) o
    go h none e y = absurd (none-ne-some o y)
    go h (some (ok u)) e y = as_some (RanOf src s (InCommonWithRemote i)) (record { gave = Told (common_at s (find i s.rows)); left = u }) o y (Skipping.Ran.ack_ok h (mark_sound src n i s (ok u) e))
    go h (some (no d u)) e y = as_some (RanOf src s (InCommonWithRemote i)) (record { gave = Denied d; left = u }) o y (Skipping.Ran.ack_no h (mark_sound src n i s (no d u) e))
skip_sound src n s (Note i b) o x = Skipping.Ran.notes (note_sound src b i s o x)
skip_sound src n s NextHave o x = Skipping.Ran.next_have (next_sound src n s o x)

abbrev NoopOf : Source → Walk → Call → Outcome → Type 0
NoopOf src s c o = Noop.Ran src s c o.gave o.left

pub noop_sound : (src : Source) (s : Walk) (c : Call) (o : Outcome) → noop_of src s c ≡ some o → Noop.Ran src s c o.gave o.left
noop_sound src s (AddTip i) o x = as_some (NoopOf src s (AddTip i)) (record { gave = Done; left = s }) o x Noop.Ran.tips
noop_sound src s (KnownCommon i) o x = as_some (NoopOf src s (KnownCommon i)) (record { gave = Done; left = s }) o x Noop.Ran.knows
noop_sound src s (InCommonWithRemote i) o x = as_some (NoopOf src s (InCommonWithRemote i)) (record { gave = Told false; left = s }) o x Noop.Ran.acks
noop_sound src s (Note i b) o x = Noop.Ran.notes (note_sound src b i s o x)
noop_sound src s NextHave o x = as_some (NoopOf src s NextHave) (record { gave = NoneLeft; left = s }) o x Noop.Ran.next_have
