-- Each run of the relations is what the functions compute, given fuel enough; so a run's outcome is fixed.
use Rattle.std.proofs.Common.{◌≡◌, ℕ, zero, suc, ◌+◌, ◌≤◌, Bool, true, false, List, [], ◌∷◌, length, sym, refl, ap, ◌∙◌, le_of_suc-le-suc, not-suc-le-zero, arith}
use mathlib.Core.Option.{Option, some, some-injective}
use Rattle.std.proofs.lemmas.Bool.{lt-ltb, le-ltb, le-leb, lt-leb, eq-eqb, ne_eqb}
use Rattle.source.specs.declared.ObjectId.{ObjectId}
use Rattle.book.specs.declared.types.Remark.{Remark}
use Rattle.model.specs.Book.{Waits, Marks, Flags, SEEN, COMMON_REF_AND_SEEN, Walk, flags_at, drawn, stop, Source}
use Rattle.model.specs.Consecutive
use Rattle.model.specs.Steps
use Rattle.model.specs.Steps.{Looked, found, nothing, denied, Lookup, Res, ok, no, Noted}
use Rattle.model.specs.Consecutive.{Push, Marking, Mark, PushUnseen, passed_on, Pass, passes_both, Next, Ran}
use Rattle.model.specs.declared.Call.{Call}
use Rattle.model.specs.declared.Reply.{Reply}
use Rattle.model.specs.declared.Reply.TheVariants.{Have, NoneLeft, Denied}
use Rattle.model.proofs.Eval.{look, push_of, marking_of, mark_of, push_unseen_of, then, pass_of, Outcome, note_at, next_of, ran_of}

-- with fuel enough f comes to x
abbrev pub Comes : {A : Type 0} → (ℕ → Option A) → A → Type 0
Comes f x = (n : ℕ) × ((m : ℕ) → n ≤ m → f m ≡ some x)

pub at_suc : {A : Type 0} (f : ℕ → Option A) (x : A) (n : ℕ) → ((m : ℕ) → n ≤ m → f (suc m) ≡ some x) → Comes f x
at_suc {A} f x n h = (suc n, go)
  where
    go : (m : ℕ) → suc n ≤ m → f m ≡ some x
    go zero l = absurd (not-suc-le-zero l)
    go (suc m) l = h m (le_of_suc-le-suc l)

pub comes_once : {A : Type 0} (f : ℕ → Option A) (x y : A) → Comes f x → Comes f y → x ≡ y
comes_once f x y a b = some-injective x y (sym (a.1 (a.0 + b.0) (omega arith)) ∙ b.1 (a.0 + b.0) (omega arith))

pub look_complete : (src : Source) (s : Walk) (i : ObjectId) (l : Looked) → Lookup src s i l → look src s i ≡ l
look_complete src s i l (Steps.Lookup.held k e) = rw e refl
look_complete src s i l (Steps.Lookup.lacks e c) = rw (e, c) refl
look_complete src s i l (Steps.Lookup.fails x e c) = rw (e, c) refl
look_complete src s i l (Steps.Lookup.full d ps e c x) = rw (e, c, le-ltb (length s.rows) s.most_rows x) refl
look_complete src s i l (Steps.Lookup.short d ps e c x y) = rw (e, c, lt-ltb (length s.rows) s.most_rows x, lt-leb (s.links + length ps) s.most_links y) refl
look_complete src s i l (Steps.Lookup.adds d ps e c x y) = rw (e, c, lt-ltb (length s.rows) s.most_rows x, le-leb (s.links + length ps) s.most_links y) refl

pub note_complete : (src : Source) (s : Walk) (b : Remark) (i : ObjectId) (a : Reply) (t : Walk) → Noted src s b i a t → note_at b s (look src s i) ≡ some (record { gave = a; left = t })
note_complete src s b i a t (Noted.barred {d = d} l) = rw (look_complete src s i (denied d) l) refl
note_complete src s b i a t (Noted.gone l) = rw (look_complete src s i nothing l) refl
note_complete src s b i a t (Noted.set_at {k = k} {s' = u} l) = rw (look_complete src s i (found k u) l) refl

pub push_complete : (src : Source) (m : Flags) (i : ObjectId) (s : Walk) (out : Res) → Push src m i s out → push_of src m i s ≡ out
push_complete src m i s out (Consecutive.Push.enters k t l) = rw (look_complete src s i (found k t) l) refl
push_complete src m i s out (Consecutive.Push.passes l) = rw (look_complete src s i nothing l) refl
push_complete src m i s out (Consecutive.Push.denies d l) = rw (look_complete src s i (denied d) l) refl

pub marking_complete : (src : Source) (all : Bool) {g : ℕ} {ps : List ObjectId} {q : Marks} {s : Walk} {out : Res} → Marking src all g ps q s out → Comes (λ n. marking_of src all n g ps q s) out
marking_complete src all (Consecutive.Marking.done {g = g} {s = s}) = at_suc (λ n. marking_of src all n g [] [] s) (ok s) 0 (λ n l. refl)
marking_complete src all (Consecutive.Marking.unseen {g = g} {e = e} {q = q} {s = s} {out = out} h m) =
    let r = marking_complete src all m in at_suc (λ n. marking_of src all n g [] (e ∷ q) s) out r.0 (λ n l. rw (h, marking_of) (r.1 n l))
marking_complete src all (Consecutive.Marking.far {g = g} {e = e} {q = q} {s = s} {out = out} h f m) =
    let r = marking_complete src all m in at_suc (λ n. marking_of src all n g [] (e ∷ q) s) out r.0 (λ n l. rw (h, f, marking_of) (r.1 n l))
marking_complete src all (Consecutive.Marking.near {g = g} {e = e} {q = q} {s = s} {out = out} h f m) =
    let r = marking_complete src all m in at_suc (λ n. marking_of src all n g [] (e ∷ q) s) out r.0 (λ n l. rw (h, f, marking_of) (r.1 n l))
marking_complete src all (Consecutive.Marking.lost {g = g} {p = p} {ps = ps} {q = q} {s = s} {out = out} x m) =
    let r = marking_complete src all m in at_suc (λ n. marking_of src all n g (p ∷ ps) q s) out r.0 (λ n l. rw (look_complete src s p nothing x, marking_of) (r.1 n l))
marking_complete src all (Consecutive.Marking.barred {g = g} {p = p} {ps = ps} {q = q} {s = s} {d = d} x) =
    at_suc (λ n. marking_of src all n g (p ∷ ps) q s) (no d (stop s)) 0 (λ n l. rw (look_complete src s p (denied d) x, marking_of) refl)
marking_complete src all (Consecutive.Marking.had {g = g} {p = p} {ps = ps} {q = q} {s = s} {out = out} {k = k} {s' = t} x h m) =
    let r = marking_complete src all m in at_suc (λ n. marking_of src all n g (p ∷ ps) q s) out r.0 (λ n l. rw (look_complete src s p (found k t) x, h, marking_of) (r.1 n l))
marking_complete src all (Consecutive.Marking.gains {g = g} {p = p} {ps = ps} {q = q} {s = s} {out = out} {k = k} {s' = t} x h m) =
    let r = marking_complete src all m in at_suc (λ n. marking_of src all n g (p ∷ ps) q s) out r.0 (λ n l. rw (look_complete src s p (found k t) x, h, marking_of) (r.1 n l))

pub mark_complete : (src : Source) (itself all : Bool) (i : ObjectId) (s : Walk) (out : Res) → Mark src itself all i s out → Comes (λ n. mark_of src itself all n i s) out
mark_complete src itself all i s out (Consecutive.Mark.gone l) = (0, λ n x. rw (look_complete src s i nothing l, mark_of) refl)
mark_complete src itself all i s out (Consecutive.Mark.refused {d = d} l) = (0, λ n x. rw (look_complete src s i (denied d) l, mark_of) refl)
mark_complete src itself all i s out (Consecutive.Mark.already {k = k} {s' = t} l h) = (0, λ n x. rw (look_complete src s i (found k t) l, h, mark_of) refl)
mark_complete src itself all i s out (Consecutive.Mark.with_it {k = k} {s' = t} it l h m) =
    let r = marking_complete src all m in (r.0, λ n x. rw (look_complete src s i (found k t) l, h, it, mark_of) (r.1 n x))
mark_complete src itself all i s out (Consecutive.Mark.without {k = k} {s' = t} it l h m) =
    let r = marking_complete src all m in (r.0, λ n x. rw (look_complete src s i (found k t) l, h, it, mark_of) (r.1 n x))

pub push_unseen_complete : (src : Source) (m : Flags) (i : ObjectId) (s : Walk) (out : Res) → PushUnseen src m i s out → push_unseen_of src m i s ≡ out
push_unseen_complete src m i s out (Consecutive.PushUnseen.skips h) = rw (h, push_unseen_of) refl
push_unseen_complete src m i s out (Consecutive.PushUnseen.pushes h p) = rw (h, push_unseen_of) (push_complete src m i s out p)

pub pass_complete : (src : Source) (both : Bool) {ps : List ObjectId} {s : Walk} {out : Res} → Pass src both ps s out → Comes (λ n. pass_of src both n ps s) out
pass_complete src both (Consecutive.Pass.over {s = s}) = at_suc (λ n. pass_of src both n [] s) (ok s) 0 (λ n l. refl)
pass_complete src both (Consecutive.Pass.stuck {p = p} {ps = ps} {s = s} {d = d} {s' = t} u) =
    at_suc (λ n. pass_of src both n (p ∷ ps) s) (no d t) 0 (λ n l. rw (push_unseen_complete src (passed_on both) p s (no d t) u, pass_of) refl)
pass_complete src both (Consecutive.Pass.plain {p = p} {ps = ps} {s = s} {s' = t} {out = out} b u m) =
    let r = pass_complete src both m in
    at_suc (λ n. pass_of src both n (p ∷ ps) s) out r.0 (λ n l. rw (push_unseen_complete src (passed_on both) p s (ok t) u, pass_of) (rw b (r.1 n l)))
pass_complete src both (Consecutive.Pass.halted {p = p} {ps = ps} {s = s} {s' = t} {d = d} {s'' = v} b u k) =
    let w = mark_complete src false true p t (no d v) k in
    at_suc (λ n. pass_of src both n (p ∷ ps) s) (no d v) w.0 (λ n l. rw (push_unseen_complete src (passed_on both) p s (ok t) u, pass_of) (rw b (ap (λ (o : Option Res). then o (λ x. pass_of src both n ps x)) (w.1 n l))))
pass_complete src both (Consecutive.Pass.marked {p = p} {ps = ps} {s = s} {s' = t} {s'' = v} {out = out} b u k m) =
    let w = mark_complete src false true p t (ok v) k in
    let r = pass_complete src both m in
    at_suc (λ n. pass_of src both n (p ∷ ps) s) out (w.0 + r.0)
    (λ n l. rw (push_unseen_complete src (passed_on both) p s (ok t) u, pass_of) (rw b (ap (λ (o : Option Res). then o (λ x. pass_of src both n ps x)) (w.1 n (omega (arith, l))) ∙ r.1 n (omega (arith, l)))))

pub next_complete : (src : Source) {s : Walk} {a : Reply} {t : Walk} → Next src s a t → Comes (λ n. next_of src n s) (record { gave = a; left = t })
next_complete src (Consecutive.Next.empty {s = s} e) = at_suc (λ n. next_of src n s) (record { gave = NoneLeft; left = s }) 0 (λ n l. rw (e, next_of) (ap {B = Option Outcome} (λ (q : Waits). some (record { gave = NoneLeft; left = drawn s q })) e))
next_complete src (Consecutive.Next.spent {s = s} {e = x₀} {q = q} e z) =
    at_suc (λ n. next_of src n s) (record { gave = NoneLeft; left = drawn s q }) 0 (λ n l. rw (e, eq-eqb s.count 0 z, next_of) refl)
next_complete src (Consecutive.Next.answers {s = s} {e = x₀} {q = q} {s' = t} e z u m) =
    let r = pass_complete src (passes_both (flags_at s x₀.value)) m in
    at_suc (λ n. next_of src n s) (record { gave = Have x₀.value; left = t }) r.0
    (λ n l. rw (e, ne_eqb s.count 0 (λ x. omega (arith, x, z)), next_of) (rw (r.1 n l) (rw u refl)))
next_complete src (Consecutive.Next.goes_on {s = s} {e = x₀} {q = q} {s' = t} {a = a} {s'' = v} e z u m o) =
    let r = pass_complete src (passes_both (flags_at s x₀.value)) m in
    let w = next_complete src o in
    at_suc (λ n. next_of src n s) (record { gave = a; left = v }) (r.0 + w.0)
    (λ n l. rw (e, ne_eqb s.count 0 (λ x. omega (arith, x, z)), next_of) (rw (r.1 n (omega (arith, l))) (rw u (w.1 n (omega (arith, l))))))
next_complete src (Consecutive.Next.stops {s = s} {e = x₀} {q = q} {d = d} {s' = t} e z m) =
    let r = pass_complete src (passes_both (flags_at s x₀.value)) m in
    at_suc (λ n. next_of src n s) (record { gave = Denied d; left = t }) r.0
    (λ n l. rw (e, ne_eqb s.count 0 (λ x. omega (arith, x, z)), next_of) (rw (r.1 n l) refl))

pub ran_complete : (src : Source) (s : Walk) (c : Call) (a : Reply) (t : Walk) → Ran src s c a t → Comes (λ n. ran_of src n s c) (record { gave = a; left = t })
ran_complete src s c a t (Consecutive.Ran.tip_ok {i = i} {s' = u} p) = (0, λ n l. rw (push_complete src SEEN i s (ok u) p) refl)
ran_complete src s c a t (Consecutive.Ran.tip_no {i = i} {d = d} {s' = u} p) = (0, λ n l. rw (push_complete src SEEN i s (no d u) p) refl)
ran_complete src s c a t (Consecutive.Ran.known_seen {i = i} z) = (0, λ n l. rw (z, ran_of) refl)
ran_complete src s c a t (Consecutive.Ran.known_no {i = i} {d = d} {s' = u} z p) = (0, λ n l. rw (z, ran_of) (rw (push_complete src COMMON_REF_AND_SEEN i s (no d u) p) refl))
ran_complete src s c a t (Consecutive.Ran.known_halt {i = i} {d = d} {s' = u} {s'' = v} z p m) =
    let r = mark_complete src false false i u (no d v) m in (r.0, λ n l. rw (z, ran_of) (rw (push_complete src COMMON_REF_AND_SEEN i s (ok u) p) (rw (r.1 n l) refl)))
ran_complete src s c a t (Consecutive.Ran.known_ok {i = i} {s' = u} {s'' = v} z p m) =
    let r = mark_complete src false false i u (ok v) m in (r.0, λ n l. rw (z, ran_of) (rw (push_complete src COMMON_REF_AND_SEEN i s (ok u) p) (rw (r.1 n l) refl)))
ran_complete src s c a t (Consecutive.Ran.ack_no {i = i} {d = d} {s' = u} m) = let r = mark_complete src true false i s (no d u) m in (r.0, λ n l. rw (r.1 n l) refl)
ran_complete src s c a t (Consecutive.Ran.ack_ok {i = i} {s' = u} m) = let r = mark_complete src true false i s (ok u) m in (r.0, λ n l. rw (r.1 n l) refl)
ran_complete src s c a t (Consecutive.Ran.notes {r = b} {i = i} {a = x} {s' = u} n) = (0, λ m l. note_complete src s b i x u n)
ran_complete src s c a t (Consecutive.Ran.next_have o) = next_complete src o

-- the outcome of a call is fixed by the walk, the source and the call
pub ran_once : (src : Source) (s : Walk) (c : Call) (a b : Reply) (t u : Walk) → Ran src s c a t → Ran src s c b u → (a ≡ b) × (t ≡ u)
ran_once src s c a b t u x y =
    let e = comes_once (λ n. ran_of src n s c) (record { gave = a; left = t }) (record { gave = b; left = u }) (ran_complete src s c a t x) (ran_complete src s c b u y) in
    (ap (λ (o : Outcome). o.gave) e, ap (λ (o : Outcome). o.left) e)
