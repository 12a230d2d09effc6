-- What holds of a run's past holds of its list.
use Rattle.std.proofs.Common.{◌≡◌, ℕ, ◌<◌, Bool, true, false, cond, ◌⊎◌, List, [], ◌∷◌, length, Ok, Err, sym, refl, ap, ◌∙◌, subst, inl, inr, ⊎_elim}
use Rattle.std.proofs.lemmas.Bool.{both_ways}
use Rattle.source.specs.declared.ObjectId.{ObjectId}
use Rattle.book.specs.Denials.{stops_walk}
use Rattle.model.specs.Book.{Row, Walk, made, row, flags_at, Source}
use Rattle.model.specs.Steps.{ok, no}
use Rattle.model.specs.Consecutive
use Rattle.model.specs.Past as past
use Rattle.model.specs.Past.{Any, In, Doing, does, Called, Past, Accepted, TipOf, HaveOf, Tip, Acked, Answered, Has, Reach, Covered}
use Rattle.model.specs.Laws.{Complete, Once}
use Rattle.model.specs.Steady.{Good, Ext}
use Rattle.model.specs.Walks.{Plays}
use Rattle.model.specs.declared.Algorithm.{Algorithm}
use Rattle.model.specs.declared.Algorithm.TheVariants as algorithm
use Rattle.model.specs.declared.Call.{Call}
use Rattle.model.specs.declared.Call.TheVariants.{KnownCommon, AddTip, NextHave, InCommonWithRemote, Note}
use Rattle.model.specs.declared.Event.{Event}
use Rattle.model.specs.declared.Reply.{Reply}
use Rattle.model.specs.declared.Reply.TheVariants.{Done, Have, NoneLeft, Told, Denied}
use Rattle.negotiate.specs.Records.{back, Recorded}
use Rattle.negotiate.proofs.Records.{plays_past}
use Rattle.model.proofs.Good.{ext_refl, ext_trans, seen_in}
use Rattle.model.proofs.Keeps.{note_step}
use Rattle.model.proofs.Runs.{May, push_seen, push_ref, mark_good, next_good}
use Rattle.model.proofs.Moves.{called_past}
use Rattle.model.proofs.Laws.{any, covered_more, past_account}
use Rattle.model.proofs.Every.{every_past_lawful, every_call_pops}
use Rattle.unacknowledged.specs.declared.Missing.TheVariants.{LastNone, NoneAfterTip, Going}
use Rattle.unacknowledged.specs.Judging.{Standing, tipped, accepted, replied, after, standing_from, standing_of}
use Rattle.unacknowledged.specs.Listing.{named}
use Rattle.unacknowledged.specs.Reports.{Told as Outcome, outcome_of, ids, Distinct, Kept, Reports}
use Rattle.unacknowledged.proofs.Listings.{named_acked, acked_named, listed_has, listed_from, Apart, distinct}

may : (src : Source) (a : Reply) → May (any src) a
may src Done = tt
may src (Have k) = tt
may src NoneLeft = tt
may src (Told b) = tt
may src (Denied d) = λ k. tt

-- over a call of consecutive each row keeps its id
ran_ext : (src : Source) (s : Walk) (c : Call) (a : Reply) (t : Walk) → Good (any src) s → Consecutive.Ran src s c a t → Ext s t
ran_ext src s c a t G (Consecutive.Ran.tip_ok {i = i} {s' = u} p) = (push_seen (any src) tt i s (ok u) G p).ext
ran_ext src s c a t G (Consecutive.Ran.tip_no {i = i} {d = d} {s' = u} p) = (push_seen (any src) tt i s (no d u) G p).ext
ran_ext src s c a t G (Consecutive.Ran.known_seen z) = ext_refl s
ran_ext src s c a t G (Consecutive.Ran.known_no {i = i} {d = d} {s' = u} z p) = (push_ref (any src) tt i s (no d u) G z tt p).ext
ran_ext src s c a t G (Consecutive.Ran.known_halt {i = i} {d = d} {s' = u} {s'' = v} z p m) =
    let r = push_ref (any src) tt i s (ok u) G z tt p in
    ext_trans s u v r.ext (mark_good (any src) tt false false i u (no d v) r.good (λ x y. tt) (λ x y w. tt) m).ext
ran_ext src s c a t G (Consecutive.Ran.known_ok {i = i} {s' = u} {s'' = v} z p m) =
    let r = push_ref (any src) tt i s (ok u) G z tt p in
    ext_trans s u v r.ext (mark_good (any src) tt false false i u (ok v) r.good (λ x y. tt) (λ x y w. tt) m).ext
ran_ext src s c a t G (Consecutive.Ran.ack_no {i = i} {d = d} {s' = u} m) = (mark_good (any src) tt true false i s (no d u) G (λ x y. tt) (λ x y w. tt) m).ext
ran_ext src s c a t G (Consecutive.Ran.ack_ok {i = i} {s' = u} m) = (mark_good (any src) tt true false i s (ok u) G (λ x y. tt) (λ x y w. tt) m).ext
ran_ext src s c a t G (Consecutive.Ran.notes {r = b} {i = i} {a = x} {s' = u} n) = (note_step (any src) tt s b i x u G n).1
ran_ext src s c a t G (Consecutive.Ran.next_have {a = x} {s' = u} o) = (next_good (any src) tt o tt (λ j. tt) G (may src x)).ext

called_ext : (src : Source) (s : Walk) (c : Call) (a : Reply) (t : Walk) → Good (any src) s → Called (Consecutive.Ran src) s c a t → Ext s t
called_ext src s c a t G (inl (st, ea, et)) = subst (Ext s) (sym et) (ext_refl s)
called_ext src s c a t G (inr (ns, r)) = ran_ext src s c a t G r

-- what some event of a past, or of a run on top of it, is
in_front : (P : Event → Type 0) (h es : List Event) → Any P h → Any P (back h es)
in_front P h [] x = x
in_front P h (e ∷ es) x = in_front P (e ∷ h) es (inr x)

in_rest : (P : Event → Type 0) (h es : List Event) → Any P es → Any P (back h es)
in_rest P h [] x = absurd x
in_rest P h (e ∷ es) (inl x) = in_front P (e ∷ h) es (inl x)
in_rest P h (e ∷ es) (inr x) = in_rest P (e ∷ h) es x

parted : (P : Event → Type 0) (h es : List Event) → Any P (back h es) → Any P h ⊎ Any P es
parted P h [] x = inl x
parted P h (e ∷ es) x = ⊎_elim (⊎_elim (λ y. inr (inl y)) (λ y. inl y)) (λ y. inr (inr y)) (parted P (e ∷ h) es x)

alone : (P : Event → Type 0) (es : List Event) → Any P (back [] es) → Any P es
alone P es x = ⊎_elim (λ y. absurd y) (λ y. y) (parted P [] es x)

-- each answered row has POPPED
abbrev Popped : List Event → Walk → Type 0
Popped h s = (k : ℕ) → Answered h k → (flags_at s k).popped ≡ true

popped_more : (n : Algorithm) (src : Source) (h : List Event) (s : Walk) (e : Event) (u : Walk) → Past n src h s → Popped h s → Called (does n src) s e.asked e.gave u → Popped (e ∷ h) u
popped_more n src h s e u p o d k w =
    let x = every_call_pops n src h s e.asked e.gave u p d in
    ⊎_elim (λ y. (x.added k y).1) (λ y. x.stays k (o k y)) w

plays_popped : (n : Algorithm) (src : Source) (h : List Event) (s : Walk) (es : List Event) (t : Walk) → Past n src h s → Popped h s → Plays (does n src) s es t → Popped (back h es) t
plays_popped n src h s [] t p o q = subst (Popped h) (sym q) o
plays_popped n src h s (e ∷ es) t p o (u, d, r) = plays_popped n src (e ∷ h) u es t (called_past (does n src) s u e.asked e.gave h d p) (popped_more n src h s e u p o d) r

-- what no tip comes after stays complete
complete_more : (src : Source) (e : Event) (h : List Event) (s t : Walk) → Ext s t → ((k : ℕ) → Answered h k → k < length s.rows)
    → ((i : ObjectId) → TipOf e.asked i → Accepted e.gave → ⊥) → Complete src h s → Complete src (e ∷ h) t
complete_more src e h s t x l nt C y i (inl w) re = absurd (nt y w.0 w.1)
complete_more src e h s t x l nt C y i (inr w) re = ⊎_elim
    (λ z. inl (z.0, inr z.1, x.same_id z.0 (l z.0 z.1) ∙ z.2)) (λ z. inr (covered_more src e h i z)) (C y i w re)

-- a finished run is complete
abbrev Sure : Source → Standing → List Event → Walk → Type 0
Sure src (Ok x) h s = Complete src h s
Sure src (Err m) h s = Unit {0}

module _ (src : Source) (h : List Event) (s : Walk) (c : Call) (a : Reply) (u : Walk) (p : Past algorithm.Consecutive src h s) (o : Popped h s) (d : Called (Consecutive.Ran src) s c a u) where
  abbrev e : Event
  e = record { asked = c; gave = a }

  range : (k : ℕ) → Answered h k → k < length s.rows
  range k w = seen_in s k (((past_account src p).0.fine k).pop_seen (o k w))

  stays : (st : Standing) → ((i : ObjectId) → TipOf c i → Accepted a → ⊥) → Sure src st h s → Sure src st (e ∷ h) u
  stays (Ok x) nt C = complete_more src e h s u (called_ext src s c a u (past_account src p).0 d) range nt C
  stays (Err m) nt C = tt

  tips : (st : Standing) → Sure src (tipped st) (e ∷ h) u
  tips (Ok x) = tt
  tips (Err m) = tt

  ends : c ≡ NextHave → a ≡ NoneLeft → Complete src (e ∷ h) u
  ends ec ea =
      let q : Past algorithm.Consecutive src (e ∷ h) u = called_past (does algorithm.Consecutive src) s u c a h d p in
      let C = (((every_past_lawful algorithm.Consecutive src (e ∷ h) u q).counts refl).complete h (ap (λ (b : Call). record { asked = b; gave = a } ∷ h) ec ∙ ap (λ (b : Reply). record { asked = NextHave; gave = b } ∷ h) ea)).1 in
      complete_more src e h u u (ext_refl u) (λ k w. seen_in u k (((past_account src q).0.fine k).pop_seen (popped_more algorithm.Consecutive src h s e u p o d k (inr w))))
      (λ i w x. subst (λ (b : Call). TipOf b i) ec w) C

takes : (src : Source) (h : List Event) (s : Walk) (c : Call) (a : Reply) (u : Walk) (p : Past algorithm.Consecutive src h s) (o : Popped h s) (d : Called (Consecutive.Ran src) s c a u)
    (st next : Standing) → (c ≡ NextHave → Sure src next (record { asked = c; gave = a } ∷ h) u) → Sure src st h s → Sure src (accepted st next c) (record { asked = c; gave = a } ∷ h) u
takes src h s (KnownCommon i) a u p o d st next nx J = stays src h s (KnownCommon i) a u p o d st (λ j w x. w) J
takes src h s (AddTip i) a u p o d st next nx J = tips src h s (AddTip i) a u p o d st
takes src h s NextHave a u p o d st next nx J = nx refl
takes src h s (InCommonWithRemote i) a u p o d st next nx J = stays src h s (InCommonWithRemote i) a u p o d st (λ j w x. w) J
takes src h s (Note i r) a u p o d st next nx J = stays src h s (Note i r) a u p o d st (λ j w x. w) J

replies : (src : Source) (h : List Event) (s : Walk) (c : Call) (a : Reply) (u : Walk) (p : Past algorithm.Consecutive src h s) (o : Popped h s) (d : Called (Consecutive.Ran src) s c a u)
    (st : Standing) → Sure src st h s → Sure src (replied st c a) (record { asked = c; gave = a } ∷ h) u
replies src h s c Done u p o d st J = takes src h s c Done u p o d st (Err LastNone) (λ x. tt) J
replies src h s c (Have k) u p o d st J = takes src h s c (Have k) u p o d st (Err LastNone) (λ x. tt) J
replies src h s c NoneLeft u p o d st J = takes src h s c NoneLeft u p o d st (Ok tt) (λ x. ends src h s c NoneLeft u p o d x refl) J
replies src h s c (Told b) u p o d st J = takes src h s c (Told b) u p o d st (Err LastNone) (λ x. tt) J
replies src h s c (Denied n) u p o d st J = go (stops_walk n)
  where
    go : (b : Bool) → Sure src (cond b (Err Going) st) (record { asked = c; gave = Denied n } ∷ h) u
    go true = tt
    go false = stays src h s c (Denied n) u p o d st (λ i w x. x) J

one : (src : Source) (h : List Event) (s : Walk) (e : Event) (u : Walk) (p : Past algorithm.Consecutive src h s) (o : Popped h s) (d : Called (Consecutive.Ran src) s e.asked e.gave u)
    (st : Standing) → Sure src st h s → Sure src (after st e) (e ∷ h) u
one src h s e u p o d (Ok x) J = replies src h s e.asked e.gave u p o d (Ok x) J
one src h s e u p o d (Err LastNone) J = replies src h s e.asked e.gave u p o d (Err LastNone) J
one src h s e u p o d (Err NoneAfterTip) J = replies src h s e.asked e.gave u p o d (Err NoneAfterTip) J
one src h s e u p o d (Err Going) J = tt

whole : (src : Source) (h : List Event) (s : Walk) (es : List Event) (t : Walk) (st : Standing) → Past algorithm.Consecutive src h s → Popped h s → Sure src st h s
    → Plays (Consecutive.Ran src) s es t → Sure src (standing_from st es) (back h es) t
whole src h s [] t st p o J q = subst (Sure src st h) (sym q) J
whole src h s (e ∷ es) t st p o J (u, d, r) =
    whole src (e ∷ h) u es t (after st e) (called_past (does algorithm.Consecutive src) s u e.asked e.gave h d p) (popped_more algorithm.Consecutive src h s e u p o d) (one src h s e u p o d st J) r

-- no row is answered twice, in the order of the calls
once_front : (s : Walk) (h es : List Event) → Once s (back h es) → Once s h
once_front s h [] w = w
once_front s h (e ∷ es) w = (once_front s (e ∷ h) es w).1

once_later : (s : Walk) (h es : List Event) (k : ℕ) → Once s (back h es) → Answered h k → Answered es k → ⊥
once_later s h [] k w x y = y
once_later s h (e ∷ es) k w x (inl y) = ((once_front s (e ∷ h) es w).0 k y).0 x
once_later s h (e ∷ es) k w x (inr y) = once_later s (e ∷ h) es k w (inr x) y

apart : (all : List Event) (rows : List Row) (s : Walk) (h es : List Event) → Once s (back h es) → Apart all rows es
apart all rows s h [] w = tt
apart all rows s h (e ∷ es) w = ((λ k x y. once_later s (e ∷ h) es k w (inl x) y), apart all rows s (e ∷ h) es w)

reach_has : (src : Source) (x : ObjectId) {i : ObjectId} → Reach src x i → Has src i
reach_has src x (past.Reach.at h) = h
reach_has src x (past.Reach.step r pa h) = h

module _ (src : Source) (a b : ℕ) (es : List Event) (t : Walk) (q : Plays (Consecutive.Ran src) (made a b) es t) where
  start : Past algorithm.Consecutive src [] (made a b)
  start = past.PastOf.begun a b

  end : Past algorithm.Consecutive src (back [] es) t
  end = plays_past algorithm.Consecutive src [] (made a b) es t start q

  inside : (k : ℕ) → Answered es k → k < length t.rows
  inside k w = seen_in t k (((past_account src end).0.fine k).pop_seen (plays_popped algorithm.Consecutive src [] (made a b) es t start (λ j x. absurd x) q k (in_rest _ [] es w)))

  single : Distinct (ids es t)
  single = distinct es t.rows es (apart es t.rows t [] es (every_past_lawful algorithm.Consecutive src (back [] es) t end).once)
      (λ j k x y e. (past_account src end).0.uniq j k (inside j x) (inside k y) e)

  covered : (i : ObjectId) → Covered src (back [] es) i → Covered src es i
  covered i (inl x) = inl (x.0, alone _ es x.1, x.2)
  covered i (inr x) = inr (x.0, alone _ es x.1, x.2)

  nothing_lost : standing_of es ≡ Ok tt → (x i : ObjectId) → Tip es x → Reach src x i → In i (ids es t) ⊎ Covered src es i
  nothing_lost f x i tp re =
      let C : Complete src (back [] es) t = subst (λ (st : Standing). Sure src st (back [] es) t) f (whole src [] (made a b) es t (Err LastNone) start (λ j y. absurd y) tt q) in
      ⊎_elim (λ z. on z.0 (alone _ es z.1) z.2 (named es i) refl) (λ z. inr (covered i z)) (C x i (in_rest _ [] es tp) re)
    where
      on : (k : ℕ) → Answered es k → (row t k).id ≡ i → (v : Bool) → named es i ≡ v → In i (ids es t) ⊎ Covered src es i
      on k w ei true n = inr (inl (i, named_acked es i n, past.Reach.at (reach_has src x re)))
      on k w ei false n = inl (subst (λ (j : ObjectId). In j (ids es t)) ei (listed_has es t.rows es k w (subst (λ (j : ObjectId). named es j ≡ false) (sym ei) n)))

pub kept : (n : Algorithm) (src : Source) (a b : ℕ) (es : List Event) (t : Walk) → Plays (does n src) (made a b) es t → Kept n src es t
kept n src a b es t q = record {
  answered = λ i x. let z = listed_from es t.rows es i x in (z.0, z.1, z.2);
  unnamed = λ i x w. both_ways (named es i) (listed_from es t.rows es i x).3 (acked_named es i w);
  once = λ e. single src a b es t (subst (λ (m : Algorithm). Plays (does m src) (made a b) es t) e q);
  complete = λ e. nothing_lost src a b es t (subst (λ (m : Algorithm). Plays (does m src) (made a b) es t) e q);
}

-- what a run from a book's making comes to
pub reports : (n : Algorithm) (src : Source) (a b : ℕ) (s : Walk) (calls : List Call) (es fs : List Event) (t : Walk) (rows : List Row) (o : Outcome) → s ≡ made a b → Recorded n src s calls es t
    → fs ≡ es → rows ≡ t.rows → o ≡ outcome_of fs rows → Reports n src (made a b) calls o
reports n src a b s calls es fs t rows o es-s R ef er to =
    let Q : Recorded n src (made a b) calls es t = subst (λ (x : Walk). Recorded n src x calls es t) es-s R in
    record {
      events = es;
      left = t;
      recorded = Q;
      says = to ∙ (ap (λ (zs : List Event). outcome_of zs rows) ef ∙ ap (λ (r : List Row). outcome_of es r) er);
      kept = kept n src a b es t Q.plays;
    }
