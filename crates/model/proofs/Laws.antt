-- The laws over every past.
use Rattle.std.proofs.Common.{◌≡◌, ℕ, ◌+◌, ◌<◌, ◌≤◌, Bool, true, false, not, ◌&&◌, ◌||◌, ◌⊎◌, List, [], ◌∷◌, length, count_by, sym, refl, ap, ◌∙◌, subst, inl, inr, ⊎_elim, arith}
use Rattle.std.proofs.lemmas.List.Sums.{sum_by-cons}
use Rattle.std.proofs.lemmas.Bool.{both_ways, true≢false, false≢true}
use Rattle.source.specs.declared.ObjectId.{ObjectId}
use Rattle.book.specs.declared.types.Denial.{Denial}
use Rattle.model.specs.Book.{Marks, Flags, SEEN, COMMON_REF_AND_SEEN, Row, Walk, made, row, flags_at, stop, find, Source}
use Rattle.model.specs.Consecutive
use Rattle.model.specs.Steps.{Res, ok, no, noted, Noted, common_at}
use Rattle.model.specs.Consecutive.{Push, Mark, Next, Ran}
use Rattle.model.specs.declared.Call.{Call}
use Rattle.model.specs.declared.Call.TheVariants.{KnownCommon, AddTip, NextHave, InCommonWithRemote, Note}
use Rattle.model.specs.declared.Reply.{Reply}
use Rattle.model.specs.declared.Reply.TheVariants.{Done, Have, NoneLeft, Told, Denied}
use Rattle.model.specs.Past
use Rattle.model.specs.Past.{Accepted, TipOf, HaveOf, Tip, Known, Answered, Has, Parent, Reach, Covered, is_seen, is_settled}
use Rattle.model.specs.declared.Event.{Event}
use Rattle.model.specs.declared.Algorithm.TheVariants as algorithm
use Rattle.model.specs.Laws.{Tallied, Settled, Complete}
use Rattle.model.specs.Steady.{occ, bit, open_flags, is_open, World, Good, Ext}
use Rattle.model.proofs.Good.{ext_refl, ext_trans, seen_in, none_open, begun_good}
use Rattle.model.proofs.Ops.{lookup_finds, noted_good}
use Rattle.model.proofs.Runs.{HeldSeen, held_seen_ext, mark_good, push_seen, push_ref, stop_good, next_good}

abbrev pub world : Source → List Event → World
world src h = record {
  src = src;
  Cov = Covered src h;
  Ref = Known h;
  Ans = Answered h;
  Pop = λ k. Unit {0};
  Real = Unit {0};
  Exact = Unit {0};
  down = λ b c cv pa hc. ⊎_elim (λ x. inl (x.0, x.1, Past.Reach.step x.2 pa hc)) (λ x. inr (x.0, x.1, (b, Past.Reach.step x.2.1 x.2.2 x.2.3, pa, hc))) cv;
  ref_down = λ b c kn pa hc. inr (b, kn, (b, Past.Reach.at (pa.0, pa.1, pa.2), pa, hc));
}

abbrev pub any : Source → World
any src = record { src = src; Cov = λ i. Unit {0}; Ref = λ i. Unit {0}; Ans = λ k. Unit {0}; Pop = λ k. Unit {0}; Real = Unit {0}; Exact = Unit {0}; down = λ b c x y z. tt; ref_down = λ b c x y z. tt }

good_any : (src : Source) (h : List Event) (s : Walk) → Good (world src h) s → Good (any src) s
good_any src h s G = record { tally = G.tally; pop = λ k x. tt; fine = G.fine; cov = λ k x. tt; ref = λ k x. tt; ans = λ k x. inr tt; from = G.from; uniq = G.uniq; room = G.room; short = G.short }

pub covered_more : (src : Source) (e : Event) (h : List Event) (i : ObjectId) → Covered src h i → Covered src (e ∷ h) i
covered_more src e h i (inl x) = inl (x.0, inr x.1, x.2)
covered_more src e h i (inr x) = inr (x.0, inr x.1, x.2)

good_more : (src : Source) (e : Event) (h : List Event) (s : Walk) → Good (world src h) s → Good (world src (e ∷ h)) s
good_more src e h s G = record {
  tally = G.tally;
  pop = λ k x. tt;
  fine = G.fine;
  cov = λ k x. covered_more src e h (row s k).id (G.cov k x);
  ref = λ k x. inr (G.ref k x);
  ans = λ k x. ⊎_elim inl (λ y. inr (inr y)) (G.ans k x);
  from = G.from;
  uniq = G.uniq;
  room = G.room;
  short = G.short;
}

-- what a past says of a walk that it leads to and that is not stopped
pub record Account (src : Source) (h : List Event) (s : Walk) : Type 0 where
  pub good : Good (world src h) s
  pub tips : (i : ObjectId) → Tip h i → Has src i → HeldSeen s i
  pub pops : (k : ℕ) → Answered h k → (flags_at s k).popped ≡ true
  pub kids : (k : ℕ) → Answered h k → (p : ObjectId) → Parent src (row s k).id p → Has src p → HeldSeen s p

popped_in : (W : World) (s : Walk) (k : ℕ) → Good W s → (flags_at s k).popped ≡ true → k < length s.rows
popped_in W s k G h = seen_in s k ((G.fine k).pop_seen h)

grow : (src : Source) (e : Event) (h : List Event) (s t : Walk) → Account src h s → Ext s t → Good (world src (e ∷ h)) t
    → ((i : ObjectId) → TipOf e.asked i × Accepted e.gave → Has src i → HeldSeen t i)
    → ((k : ℕ) → HaveOf e.gave k → (flags_at t k).popped ≡ true)
    → ((k : ℕ) → HaveOf e.gave k → (p : ObjectId) → Parent src (row t k).id p → Has src p → HeldSeen t p)
    → Account src (e ∷ h) t
grow src e h s t T x G ti po ki = record {
  good = G;
  tips = λ i w hi. ⊎_elim (λ a. ti i a hi) (λ b. held_seen_ext s t i x (T.tips i b hi)) w;
  pops = λ k w. ⊎_elim (po k) (λ b. x.popped_stays k (T.pops k b)) w;
  kids = λ k w p pa hp. ⊎_elim (λ a. ki k a p pa hp)
      (λ b. held_seen_ext s t p x (T.kids k b p (subst (λ (i : ObjectId). Parent src i p) (x.same_id k (popped_in (world src h) s k T.good (T.pops k b))) pa) hp)) w;
}

abbrev pub After : Source → Event → List Event → Walk → Type 0
After src e h t = Good (any src) t × (t.stopped ≡ false → Account src (e ∷ h) t)

accepted : (src : Source) (e : Event) (h : List Event) (t : Walk) → Account src (e ∷ h) t → After src e h t
accepted src e h t T = (good_any src (e ∷ h) t T.good, λ x. T)

stopped_so : (src : Source) (e : Event) (h : List Event) (t : Walk) → Good (any src) t → t.stopped ≡ true → After src e h t
stopped_so src e h t G st = (G, λ x. absurd (both_ways t.stopped x st))

push_stopped : (src : Source) (m : Flags) (i : ObjectId) (s : Walk) (d : Denial) (t : Walk) → Push src m i s (no d t) → t.stopped ≡ true
push_stopped src m i s d t (Consecutive.Push.denies _ l) = refl

unseen_stopped : (src : Source) (m : Flags) (i : ObjectId) (s : Walk) (d : Denial) (t : Walk) → Consecutive.PushUnseen src m i s (no d t) → t.stopped ≡ true
unseen_stopped src m i s d t (Consecutive.PushUnseen.pushes h p) = push_stopped src m i s d t p

abbrev Halts : Res → Type 0
Halts (ok s) = Unit {0}
Halts (no d s) = s.stopped ≡ true

marking_stopped : (src : Source) (all : Bool) {g : ℕ} {ps : List ObjectId} {q : Marks} {s : Walk} {out : Res} → Consecutive.Marking src all g ps q s out → Halts out
marking_stopped src all Consecutive.Marking.done = tt
marking_stopped src all (Consecutive.Marking.unseen h m) = marking_stopped src all m
marking_stopped src all (Consecutive.Marking.far h f m) = marking_stopped src all m
marking_stopped src all (Consecutive.Marking.near h f m) = marking_stopped src all m
marking_stopped src all (Consecutive.Marking.lost l m) = marking_stopped src all m
marking_stopped src all (Consecutive.Marking.barred l) = refl
marking_stopped src all (Consecutive.Marking.had l h m) = marking_stopped src all m
marking_stopped src all (Consecutive.Marking.gains l h m) = marking_stopped src all m

mark_stopped : (src : Source) (itself all : Bool) (i : ObjectId) (s : Walk) (d : Denial) (t : Walk) → Mark src itself all i s (no d t) → t.stopped ≡ true
mark_stopped src itself all i s d t (Consecutive.Mark.refused l) = refl
mark_stopped src itself all i s d t (Consecutive.Mark.with_it x l h m) = marking_stopped src all m
mark_stopped src itself all i s d t (Consecutive.Mark.without x l h m) = marking_stopped src all m

pass_stopped : (src : Source) {both : Bool} {ps : List ObjectId} {s : Walk} {out : Res} → Consecutive.Pass src both ps s out → Halts out
pass_stopped src Consecutive.Pass.over = tt
pass_stopped src (Consecutive.Pass.stuck {p = p} {s = s} {d = d} u) = unseen_stopped src _ p s d _ u
pass_stopped src (Consecutive.Pass.plain b u m) = pass_stopped src m
pass_stopped src (Consecutive.Pass.halted {p = p} {s' = s} {d = d} b u k) = mark_stopped src _ _ p s d _ k
pass_stopped src (Consecutive.Pass.marked b u k m) = pass_stopped src m

next_stopped : (src : Source) {s : Walk} (d : Denial) {t : Walk} → Next src s (Denied d) t → t.stopped ≡ true
next_stopped src d (Consecutive.Next.goes_on e n c m o) = next_stopped src d o
next_stopped src d (Consecutive.Next.stops e z m) = pass_stopped src m

next_after : (src : Source) (h : List Event) (s : Walk) (a : Reply) (t : Walk) → Account src h s → Next src s a t → After src (record { asked = NextHave; gave = a }) h t
next_after src h s Done t T o =
    let e : Event = record { asked = NextHave; gave = Done } in
    let r = next_good (world src (e ∷ h)) tt o tt (λ j. tt) (good_more src e h s T.good) tt in
    accepted src e h t (grow src e h s t T r.ext r.good (λ i w. absurd w.0) (λ k w. absurd w) (λ k w. absurd w))
next_after src h s (Have k) t T o =
    let e : Event = record { asked = NextHave; gave = Have k } in
    let r = next_good (world src (e ∷ h)) tt o tt (λ j. tt) (good_more src e h s T.good) (inl refl) in
    accepted src e h t (grow src e h s t T r.ext r.good (λ i w. absurd w.0)
    (λ j w. subst (λ (m : ℕ). (flags_at t m).popped ≡ true) w r.says.popped_now)
    (λ j w. subst (λ (m : ℕ). (p : ObjectId) → Parent src (row t m).id p → Has src p → HeldSeen t p) w r.says.kids_seen))
next_after src h s NoneLeft t T o =
    let e : Event = record { asked = NextHave; gave = NoneLeft } in
    let r = next_good (world src (e ∷ h)) tt o tt (λ j. tt) (good_more src e h s T.good) tt in
    accepted src e h t (grow src e h s t T r.ext r.good (λ i w. absurd w.0) (λ k w. absurd w) (λ k w. absurd w))
next_after src h s (Told b) t T o =
    let e : Event = record { asked = NextHave; gave = Told b } in
    let r = next_good (world src (e ∷ h)) tt o tt (λ j. tt) (good_more src e h s T.good) tt in
    accepted src e h t (grow src e h s t T r.ext r.good (λ i w. absurd w.0) (λ k w. absurd w) (λ k w. absurd w))
next_after src h s (Denied d) t T o =
    let r = next_good (any src) tt o tt (λ j. tt) (good_any src h s T.good) (λ k. tt) in
    (r.good, λ x. absurd (both_ways t.stopped x (next_stopped src d o)))

ran_after : (src : Source) (h : List Event) (s : Walk) (c : Call) (a : Reply) (t : Walk) → Account src h s → Ran src s c a t → After src (record { asked = c; gave = a }) h t
ran_after src h s c a t T (Consecutive.Ran.tip_ok {i = i} {s' = u} p) =
    let e : Event = record { asked = AddTip i; gave = Done } in
    let r = push_seen (world src (e ∷ h)) tt i s (ok u) (good_more src e h s T.good) p in
    accepted src e h u (grow src e h s u T r.ext r.good (λ j w hj. subst (HeldSeen u) w.0 (r.seen_now tt (subst (Has src) (sym w.0) hj))) (λ k w. absurd w) (λ k w. absurd w))
ran_after src h s c a t T (Consecutive.Ran.tip_no {i = i} {d = d} {s' = u} p) =
    stopped_so src _ h u (push_seen (any src) tt i s (no d u) (good_any src h s T.good) p).good (push_stopped src SEEN i s d u p)
ran_after src h s c a t T (Consecutive.Ran.known_seen {i = i} z) =
    let e : Event = record { asked = KnownCommon i; gave = Done } in
    accepted src e h s (grow src e h s s T (ext_refl s) (good_more src e h s T.good) (λ j w. absurd w.0) (λ k w. absurd w) (λ k w. absurd w))
ran_after src h s c a t T (Consecutive.Ran.known_no {i = i} {d = d} {s' = u} z p) =
    stopped_so src _ h u (push_ref (any src) tt i s (no d u) (good_any src h s T.good) z tt p).good (push_stopped src COMMON_REF_AND_SEEN i s d u p)
ran_after src h s c a t T (Consecutive.Ran.known_halt {i = i} {d = d} {s' = u} {s'' = v} z p m) =
    stopped_so src _ h v (mark_good (any src) tt false false i u (no d v) (push_ref (any src) tt i s (ok u) (good_any src h s T.good) z tt p).good (λ x y. tt) (λ x y w. tt) m).good (mark_stopped src false false i u d v m)
ran_after src h s c a t T (Consecutive.Ran.known_ok {i = i} {s' = u} {s'' = v} z p m) =
    let e : Event = record { asked = KnownCommon i; gave = Done } in
    let W = world src (e ∷ h) in
    let r = push_ref W tt i s (ok u) (good_more src e h s T.good) z (inl (refl, tt)) p in
    let r' = mark_good W tt false false i u (ok v) r.good (λ x. absurd (false≢true x)) (λ y pa hy. W.ref_down i y (inl (refl, tt)) pa hy) m in
    accepted src e h v (grow src e h s v T (ext_trans s u v r.ext r'.ext) r'.good (λ j w. absurd w.0) (λ k w. absurd w) (λ k w. absurd w))
ran_after src h s c a t T (Consecutive.Ran.ack_no {i = i} {d = d} {s' = u} m) =
    stopped_so src _ h u (mark_good (any src) tt true false i s (no d u) (good_any src h s T.good) (λ x y. tt) (λ x y w. tt) m).good (mark_stopped src true false i s d u m)
ran_after src h s c a t T (Consecutive.Ran.ack_ok {i = i} {s' = u} m) =
    let e : Event = record { asked = InCommonWithRemote i; gave = Told (common_at s (find i s.rows)) } in
    let W = world src (e ∷ h) in
    let r = mark_good W tt true false i s (ok u) (good_more src e h s T.good) (λ x hi. inl (i, inl (refl, tt), Past.Reach.at hi))
    (λ y pa hy. W.down i y (inl (i, inl (refl, tt), Past.Reach.at (pa.0, pa.1, pa.2))) pa hy) m in
    accepted src e h u (grow src e h s u T r.ext r.good (λ j w. absurd w.0) (λ k w. absurd w) (λ k w. absurd w))
ran_after src h s c a t T (Consecutive.Ran.notes {r = b} {i = i} (Noted.barred {d = d} l)) = stopped_so src _ h (stop s) (stop_good (any src) s (good_any src h s T.good)) refl
ran_after src h s c a t T (Consecutive.Ran.notes {r = b} {i = i} (Noted.gone l)) =
    let e : Event = record { asked = Note i b; gave = Done } in
    accepted src e h s (grow src e h s s T (ext_refl s) (good_more src e h s T.good) (λ j w. absurd w.0) (λ k w. absurd w) (λ k w. absurd w))
ran_after src h s c a t T (Consecutive.Ran.notes {r = b} {i = i} (Noted.set_at {k = k} {s' = u} l)) =
    let e : Event = record { asked = Note i b; gave = Done } in
    let W = world src (e ∷ h) in
    let f = lookup_finds W tt s i k u (good_more src e h s T.good) l in
    let r = noted_good W b u k f.good f.range in
    accepted src e h (noted b u k) (grow src e h s (noted b u k) T (ext_trans s u (noted b u k) f.ext r.1) r.0 (λ j w. absurd w.0) (λ j w. absurd w) (λ j w. absurd w))
ran_after src h s c a t T (Consecutive.Ran.next_have {a = b} {s' = u} o) = next_after src h s b u T o

begun_account : (src : Source) (n l : ℕ) → Account src [] (made n l)
begun_account src n l = record {
  good = begun_good (world src []) n l;
  tips = λ i x. absurd x;
  pops = λ k x. absurd x;
  kids = λ k x. absurd x;
}

pub past_account : (src : Source) {h : List Event} {s : Walk} → Past.Past algorithm.Consecutive src h s → Good (any src) s × (s.stopped ≡ false → Account src h s)
past_account src (Past.PastOf.begun n l) = (good_any src [] (made n l) (begun_account src n l).good, λ x. begun_account src n l)
past_account src (Past.PastOf.denied {h = h} {s = s} c p st) = ((past_account src p).0, λ x. absurd (both_ways s.stopped x st))
past_account src (Past.PastOf.called {h = h} {s = s} {c = c} {a = a} {s' = t} p ns r) = ran_after src h s c a t ((past_account src p).1 ns) r

-- the tally
split_count : (rs : List Row) → count_by is_seen rs ≡ count_by is_settled rs + count_by is_open rs
split_count [] = refl
split_count (r ∷ rs) =
    let ih = split_count rs in
    let x = sum_by-cons (λ (y : Row). bit (is_seen y)) r rs in
    let y = sum_by-cons (λ (y : Row). bit (is_settled y)) r rs in
    let z = sum_by-cons (λ (y : Row). bit (is_open y)) r rs in
    let w = bits r.flags.seen r.flags.popped r.flags.common in
    omega (arith, ih, x, y, z, w)
  where
    bits : (a b c : Bool) → bit a ≡ bit (a && (b || c)) + bit (a && (not b && not c))
    bits true true c = refl
    bits true false true = refl
    bits true false false = refl
    bits false b c = refl

pub law_a : (src : Source) (h : List Event) (s : Walk) → Past.Past algorithm.Consecutive src h s → Tallied s
law_a src h s p = split_count s.rows ∙ ap (λ (n : ℕ). count_by is_settled s.rows + n) (sym ((past_account src p).0.tally tt))

next_none : (src : Source) {s : Walk} {a : Reply} {t : Walk} → Next src s a t → s.count ≡ 0 → a ≡ NoneLeft
next_none src (Consecutive.Next.empty e) z = refl
next_none src (Consecutive.Next.spent e c) z = refl
next_none src (Consecutive.Next.answers {s = s} e n u m) z = absurd (omega (arith, n, z))
next_none src (Consecutive.Next.goes_on e n c m o) z = absurd (omega (arith, n, z))
next_none src (Consecutive.Next.stops e n m) z = absurd (omega (arith, n, z))

pub law_a_none : (src : Source) (h : List Event) (s s' : Walk) (a : Reply) → Past.Past algorithm.Consecutive src h s → s.stopped ≡ false → s.count ≡ 0 → Consecutive.Ran src s NextHave a s' → a ≡ NoneLeft
law_a_none src h s s' a p ns z (Consecutive.Ran.next_have o) = next_none src o z

-- after a none
abbrev none_event : Event
none_event = record { asked = NextHave; gave = NoneLeft }

none_told : (src : Source) (h : List Event) (s t : Walk) → Account src h s → Next src s NoneLeft t → Account src (none_event ∷ h) t
none_told src h s t T o =
    let r = next_good (world src (none_event ∷ h)) tt o tt (λ j. tt) (good_more src none_event h s T.good) tt in
    grow src none_event h s t T r.ext r.good (λ i w. absurd w.0) (λ k w. absurd w) (λ k w. absurd w)

none_says : (src : Source) (h : List Event) (s t : Walk) → Account src h s → Next src s NoneLeft t → (t.count ≡ 0) ⊎ (t.queue ≡ [])
none_says src h s t T o = (next_good (world src (none_event ∷ h)) tt o tt (λ j. tt) (good_more src none_event h s T.good) tt).says

pub all_closed : (W : World) (t : Walk) → Good W t → (t.count ≡ 0 → count_by is_open t.rows ≤ 0) → (t.count ≡ 0) ⊎ (t.queue ≡ []) → (k : ℕ) → (flags_at t k).seen ≡ true → open_flags (flags_at t k) ≡ false
all_closed W t G lo (inl z) k se = none_open t k (lo z) se
all_closed W t G lo (inr e) k se = go (open_flags (flags_at t k)) (G.fine k).waits1
  where
    go : (b : Bool) → (b ≡ true → occ k t.queue ≡ 1) → b ≡ false
    go true h = absurd (let x = h refl in let y = ap (occ k) e in omega (arith, x, y))
    go false h = refl

settles : (f : Flags) → f.seen ≡ true → open_flags f ≡ false → (f.common ≡ true) ⊎ ((f.popped ≡ true) × (f.common ≡ false))
settles f se cl = go f.seen f.popped f.common se cl
  where
    go : (a b c : Bool) → a ≡ true → (a && (not b && not c)) ≡ false → (c ≡ true) ⊎ ((b ≡ true) × (c ≡ false))
    go true b true x y = inl refl
    go true true false x y = inr (refl, refl)
    go true false false x y = absurd (true≢false y)
    go false b c x y = absurd (false≢true x)

pub settled_bits : (f : Flags) → f.seen ≡ true → open_flags f ≡ false → (f.seen && (f.popped || f.common)) ≡ true
settled_bits f se cl = go f.seen f.popped f.common se cl
  where
    go : (a b c : Bool) → a ≡ true → (a && (not b && not c)) ≡ false → (a && (b || c)) ≡ true
    go true true c x y = refl
    go true false true x y = refl
    go true false false x y = absurd (true≢false y)
    go false b c x y = absurd (false≢true x)

-- a seen row is covered or answered, where all rows are closed
seen_row : (src : Source) (h : List Event) (t : Walk) → Account src h t → ((k : ℕ) → (flags_at t k).seen ≡ true → open_flags (flags_at t k) ≡ false)
    → (i : ObjectId) → HeldSeen t i → ((k : ℕ) × Answered h k × ((row t k).id ≡ i)) ⊎ Covered src h i
seen_row src h t T cl i (k, ei, se) = ⊎_elim
    (λ c. inr (subst (Covered src h) ei (T.good.cov k c)))
    (λ pc. ⊎_elim (λ c. inr (subst (Covered src h) ei (T.good.cov k c))) (λ a. inl (k, a, ei)) (T.good.ans k pc.0))
    (settles (flags_at t k) se (cl k se))

-- what is reached from a tip is seen or covered
reached : (src : Source) (h : List Event) (t : Walk) → Account src h t → ((k : ℕ) → (flags_at t k).seen ≡ true → open_flags (flags_at t k) ≡ false)
    → (x : ObjectId) → Tip h x → {i : ObjectId} → Reach src x i → HeldSeen t i ⊎ Covered src h i
reached src h t T cl x tp (Past.Reach.at hx) = inl (T.tips x tp hx)
reached src h t T cl x tp (Past.Reach.step {b = b} {c = c} r pa hc) = on (reached src h t T cl x tp r)
  where
    more : ((k : ℕ) × Answered h k × ((row t k).id ≡ b)) ⊎ Covered src h b → HeldSeen t c ⊎ Covered src h c
    more (inl a) = inl (T.kids a.0 a.1 c (subst (λ (j : ObjectId). Parent src j c) (sym a.2) pa) hc)
    more (inr v) = inr ((world src h).down b c v pa hc)

    on : HeldSeen t b ⊎ Covered src h b → HeldSeen t c ⊎ Covered src h c
    on (inl w) = more (seen_row src h t T cl b w)
    on (inr v) = more (inr v)

less_covered : (src : Source) (h : List Event) (i : ObjectId) → Covered src (none_event ∷ h) i → Covered src h i
less_covered src h i (inl x) = ⊎_elim (λ w. absurd w.0) (λ w. inl (x.0, w, x.2)) x.1
less_covered src h i (inr x) = ⊎_elim (λ w. absurd w.0) (λ w. inr (x.0, w, x.2)) x.1

pub law_b : (src : Source) (h : List Event) (s : Walk) → Past.Past algorithm.Consecutive src (none_event ∷ h) s → Settled s × Complete src h s
law_b src h s (Past.PastOf.called {s = r} p ns (Consecutive.Ran.next_have o)) =
    let T = (past_account src p).1 ns in
    let T' = none_told src h r s T o in
    let cl = all_closed (world src (none_event ∷ h)) s T'.good (λ z. omega (arith, z, T'.good.tally tt)) (none_says src h r s T o) in (
      (λ k se. settled_bits (flags_at s k) se (cl k se)),
      (λ x i tp re. last i (⊎_elim (seen_row src (none_event ∷ h) s T' cl i) inr (reached src (none_event ∷ h) s T' cl x (inr tp) re))),
    )
  where
    last : (i : ObjectId) → ((k : ℕ) × Answered (none_event ∷ h) k × ((row s k).id ≡ i)) ⊎ Covered src (none_event ∷ h) i → ((k : ℕ) × Answered h k × ((row s k).id ≡ i)) ⊎ Covered src h i
    last i (inl a) = ⊎_elim (λ w. absurd w) (λ w. inl (a.0, w, a.2)) a.1
    last i (inr v) = inr (less_covered src h i v)
