-- Each run of the skipping relations, and of noop's, is what the functions compute; so its outcome is fixed.
use Rattle.std.proofs.Common.{◌≡◌, ◌+◌, Bool, List, [], ◌∷◌, sym, refl, ap, ◌∙◌, arith}
use mathlib.Core.Option.{Option, some, some-injective}
use Rattle.std.proofs.lemmas.Bool.{eq-eqb, ne_eqb}
use Rattle.source.specs.declared.ObjectId.{ObjectId}
use Rattle.model.specs.declared.Call.{Call}
use Rattle.model.specs.declared.Reply.{Reply}
use Rattle.model.specs.declared.Reply.TheVariants.{Have, NoneLeft, Denied}
use Rattle.model.specs.Book.{Flags, SEEN, ADVERTISED_AND_SEEN, Row, Waits, Marks, Walk, row, drawn, Source}
use Rattle.model.specs.Steps.{found, nothing, denied, Res, ok, no}
use Rattle.model.specs.Skipping
use Rattle.model.specs.Skipping.{Add, AddUnseen, Spread, Mark, PushParent, Hand, Next, Ran}
use Rattle.model.specs.Noop
use Rattle.model.proofs.Eval.{look, Outcome}
use Rattle.model.proofs.SkipEval.{add_at, add_unseen_of, spread_of, fine, mark_of, Push, pushed_mark, handed, added, push_parent_of, or_more, then_hand, hand_of, then_offer, next_of, ran_of, noop_of}
use Rattle.model.proofs.Complete.{Comes, at_suc, comes_once, look_complete, note_complete}

add_complete : (src : Source) (m : Flags) (i : ObjectId) (s : Walk) (out : Res) → Add src m i s out → add_at m s (look src s i) ≡ out
add_complete src m i s out (Skipping.Add.enters {k = k} {s' = t} l) = rw (look_complete src s i (found k t) l) refl
add_complete src m i s out (Skipping.Add.passes l) = rw (look_complete src s i nothing l) refl
add_complete src m i s out (Skipping.Add.denies {d = d} l) = rw (look_complete src s i (denied d) l) refl

add_unseen_complete : (src : Source) (m : Flags) (i : ObjectId) (s : Walk) (out : Res) → AddUnseen src m i s out → add_unseen_of src m i s ≡ out
add_unseen_complete src m i s out (Skipping.AddUnseen.skips h) = rw (h, add_unseen_of) refl
add_unseen_complete src m i s out (Skipping.AddUnseen.pushes h a) = rw (h, add_unseen_of) (add_complete src m i s out a)

spread_complete : {ps : List ObjectId} {q : Marks} {s t : Walk} → Spread ps q s t → Comes (λ n. spread_of n ps q s) t
spread_complete (Skipping.Spread.finished {s = s}) = at_suc (λ n. spread_of n [] [] s) s 0 (λ n l. refl)
spread_complete (Skipping.Spread.draw {e = e} {q = q} {s = s} {t = t} m) =
    let r = spread_complete m in at_suc (λ n. spread_of n [] (e ∷ q) s) t r.0 (λ n l. r.1 n l)
spread_complete (Skipping.Spread.lacks {p = p} {ps = ps} {q = q} {s = s} {t = t} e m) =
    let r = spread_complete m in at_suc (λ n. spread_of n (p ∷ ps) q s) t r.0 (λ n l. rw (e, spread_of) (r.1 n l))
spread_complete (Skipping.Spread.had {p = p} {ps = ps} {q = q} {s = s} {t = t} e c m) =
    let r = spread_complete m in at_suc (λ n. spread_of n (p ∷ ps) q s) t r.0 (λ n l. rw (e, c, spread_of) (r.1 n l))
spread_complete (Skipping.Spread.unseen {p = p} {ps = ps} {q = q} {s = s} {t = t} e c u m) =
    let r = spread_complete m in at_suc (λ n. spread_of n (p ∷ ps) q s) t r.0 (λ n l. rw (e, c, u, spread_of) (r.1 n l))
spread_complete (Skipping.Spread.gains {p = p} {ps = ps} {q = q} {s = s} {t = t} e c u m) =
    let r = spread_complete m in at_suc (λ n. spread_of n (p ∷ ps) q s) t r.0 (λ n l. rw (e, c, u, spread_of) (r.1 n l))

mark_complete : (src : Source) (i : ObjectId) (s : Walk) (out : Res) → Mark src i s out → Comes (λ n. mark_of src n i s) out
mark_complete src i s out (Skipping.Mark.gone l) = (0, λ n x. rw (look_complete src s i nothing l, mark_of) refl)
mark_complete src i s out (Skipping.Mark.barred {d = d} l) = (0, λ n x. rw (look_complete src s i (denied d) l, mark_of) refl)
mark_complete src i s out (Skipping.Mark.already {k = k} {s' = t} l c) = (0, λ n x. rw (look_complete src s i (found k t) l, c, mark_of) refl)
mark_complete src i s out (Skipping.Mark.spreads {k = k} {s' = t} {t = u} l c m) =
    let r = spread_complete m in (r.0, λ n x. rw (look_complete src s i (found k t) l, c, mark_of) (ap fine (r.1 n x)))

abbrev res : Bool → Res → Push
res b o = record { pushed = b; end = o }

push_complete : (src : Source) (r : Row) (p : ObjectId) (s : Walk) (b : Bool) (out : Res) → PushParent src r p s b out → Comes (λ n. push_parent_of src n r p s) (res b out)
push_complete src r p s b out (Skipping.PushParent.popped e) = (0, λ n l. rw (e, push_parent_of) refl)
push_complete src r p s b out (Skipping.PushParent.stuck {d = d} {s' = t} e a) = (0, λ n l. rw (e, push_parent_of) (rw (add_unseen_complete src SEEN p s (no d t) a) refl))
push_complete src r p s b out (Skipping.PushParent.halted {d = d} {s' = t} {s'' = u} e a sh m) =
    let x = mark_complete src p t (no d u) m in
    (x.0, λ n l. rw (e, push_parent_of) (rw (add_unseen_complete src SEEN p s (ok t) a) (rw (sh, added) (ap pushed_mark (x.1 n l)))))
push_complete src r p s b out (Skipping.PushParent.marked {s' = t} {s'' = u} e a sh m) =
    let x = mark_complete src p t (ok u) m in
    (x.0, λ n l. rw (e, push_parent_of) (rw (add_unseen_complete src SEEN p s (ok t) a) (rw (sh, added) (ap pushed_mark (x.1 n l)))))
push_complete src r p s b out (Skipping.PushParent.lost {s' = t} e a sh f) =
    (0, λ n l. rw (e, push_parent_of) (rw (add_unseen_complete src SEEN p s (ok t) a) (rw (sh, added) (ap (handed r t) f))))
push_complete src r p s b out (Skipping.PushParent.hands {k = k} {s' = t} e a sh f) =
    (0, λ n l. rw (e, push_parent_of) (rw (add_unseen_complete src SEEN p s (ok t) a) (rw (sh, added) (ap (handed r t) f))))

hand_complete : (src : Source) (r : Row) {ps : List ObjectId} {s : Walk} {b : Bool} {out : Res} → Hand src r ps s b out → Comes (λ n. hand_of src n r ps s) (res b out)
hand_complete src r (Skipping.Hand.over {s = s}) = (0, λ n l. refl)
hand_complete src r (Skipping.Hand.stuck {p = p} {ps = ps} {s = s} {b = b} {d = d} {s' = t} x) =
    let a = push_complete src r p s b (no d t) x in (a.0, λ n l. ap (then_hand (λ u. hand_of src n r ps u)) (a.1 n l))
hand_complete src r (Skipping.Hand.on {p = p} {ps = ps} {s = s} {b = b} {s' = t} x m) =
    let a = push_complete src r p s b (ok t) x in
    let c = hand_complete src r m in
    (a.0 + c.0, λ n l. ap (then_hand (λ u. hand_of src n r ps u)) (a.1 n (omega (arith, l))) ∙ ap (or_more b) (c.1 n (omega (arith, l))))

next_complete : (src : Source) {s : Walk} {a : Reply} {t : Walk} → Next src s a t → Comes (λ n. next_of src n s) (record { gave = a; left = t })
next_complete src (Skipping.Next.empty {s = s} e) = at_suc (λ n. next_of src n s) (record { gave = NoneLeft; left = s }) 0 (λ n l. rw (e, next_of) (ap {B = Option Outcome} (λ (q : Waits). some (record { gave = NoneLeft; left = drawn s q })) e))
next_complete src (Skipping.Next.spent {s = s} {q = q} e z) =
    at_suc (λ n. next_of src n s) (record { gave = NoneLeft; left = drawn s q }) 0 (λ n l. rw (e, eq-eqb s.count 0 z, next_of) refl)
next_complete src (Skipping.Next.answers {s = s} {e = x} {s' = t} e z m o) =
    let r = hand_complete src (row s x.value) m in
    at_suc (λ n. next_of src n s) (record { gave = Have x.value; left = t }) r.0
    (λ n l. rw (e, ne_eqb s.count 0 (λ x. omega (arith, x, z)), next_of) (rw (r.1 n l) (rw (o, then_offer) refl)))
next_complete src (Skipping.Next.goes_on {s = s} {e = x} {s' = t} {a = a} {s'' = v} e z m o w) =
    let r = hand_complete src (row s x.value) m in
    let y = next_complete src w in
    at_suc (λ n. next_of src n s) (record { gave = a; left = v }) (r.0 + y.0)
    (λ n l. rw (e, ne_eqb s.count 0 (λ x. omega (arith, x, z)), next_of) (rw (r.1 n (omega (arith, l))) (rw (o, then_offer) (y.1 n (omega (arith, l))))))
next_complete src (Skipping.Next.stops {s = s} {e = x} {d = d} {s' = t} e z m) =
    let r = hand_complete src (row s x.value) m in
    at_suc (λ n. next_of src n s) (record { gave = Denied d; left = t }) r.0
    (λ n l. rw (e, ne_eqb s.count 0 (λ x. omega (arith, x, z)), next_of) (rw (r.1 n l) refl))

ran_complete : (src : Source) (s : Walk) (c : Call) (a : Reply) (t : Walk) → Ran src s c a t → Comes (λ n. ran_of src n s c) (record { gave = a; left = t })
ran_complete src s c a t (Skipping.Ran.tip_ok {i = i} {s' = u} p) = (0, λ n l. rw (add_unseen_complete src SEEN i s (ok u) p) refl)
ran_complete src s c a t (Skipping.Ran.tip_no {i = i} {d = d} {s' = u} p) = (0, λ n l. rw (add_unseen_complete src SEEN i s (no d u) p) refl)
ran_complete src s c a t (Skipping.Ran.known_ok {i = i} {s' = u} p) = (0, λ n l. rw (add_unseen_complete src ADVERTISED_AND_SEEN i s (ok u) p) refl)
ran_complete src s c a t (Skipping.Ran.known_no {i = i} {d = d} {s' = u} p) = (0, λ n l. rw (add_unseen_complete src ADVERTISED_AND_SEEN i s (no d u) p) refl)
ran_complete src s c a t (Skipping.Ran.ack_unseen z) = (0, λ n l. rw (z, ran_of) refl)
ran_complete src s c a t (Skipping.Ran.ack_no {i = i} {d = d} {s' = u} z m) = let r = mark_complete src i s (no d u) m in (r.0, λ n l. rw (z, ran_of) (rw (r.1 n l) refl))
ran_complete src s c a t (Skipping.Ran.ack_ok {i = i} {s' = u} z m) = let r = mark_complete src i s (ok u) m in (r.0, λ n l. rw (z, ran_of) (rw (r.1 n l) refl))
ran_complete src s c a t (Skipping.Ran.notes {r = b} {i = i} {a = x} {s' = u} n) = (0, λ m l. note_complete src s b i x u n)
ran_complete src s c a t (Skipping.Ran.next_have o) = next_complete src o

pub skip_once : (src : Source) (s : Walk) (c : Call) (a b : Reply) (t u : Walk) → Ran src s c a t → Ran src s c b u → (a ≡ b) × (t ≡ u)
skip_once src s c a b t u x y =
    let e = comes_once (λ n. ran_of src n s c) (record { gave = a; left = t }) (record { gave = b; left = u }) (ran_complete src s c a t x) (ran_complete src s c b u y) in
    (ap (λ (o : Outcome). o.gave) e, ap (λ (o : Outcome). o.left) e)

noop_complete : (src : Source) (s : Walk) (c : Call) (a : Reply) (t : Walk) → Noop.Ran src s c a t → noop_of src s c ≡ some (record { gave = a; left = t })
noop_complete src s c a t Noop.Ran.tips = refl
noop_complete src s c a t Noop.Ran.knows = refl
noop_complete src s c a t Noop.Ran.acks = refl
noop_complete src s c a t (Noop.Ran.notes {r = b} {i = i} {a = x} {s' = u} n) = note_complete src s b i x u n
noop_complete src s c a t Noop.Ran.next_have = refl

pub noop_once : (src : Source) (s : Walk) (c : Call) (a b : Reply) (t u : Walk) → Noop.Ran src s c a t → Noop.Ran src s c b u → (a ≡ b) × (t ≡ u)
noop_once src s c a b t u x y =
    let e = some-injective (record { gave = a; left = t }) (record { gave = b; left = u }) (sym (noop_complete src s c a t x) ∙ noop_complete src s c b u y) in
    (ap (λ (o : Outcome). o.gave) e, ap (λ (o : Outcome). o.left) e)
