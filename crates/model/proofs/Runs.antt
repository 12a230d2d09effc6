-- Whole runs: marking, pushing, passing on, the draws of next.
use Rattle.std.proofs.Common.{◌≡◌, ℕ, ◌+◌, ◌<◌, Bool, true, false, ◌⊎◌, List, [], ◌∷◌, length, ℤ, sym, refl, ap, ◌∙◌, subst, inl, inr, ⊎_elim, arith}
use mathlib.Core.Option.{Option, none, some}
use Rattle.std.proofs.lemmas.Bool.{both_ways, false≢true, or_cases}
use Rattle.source.specs.declared.ObjectId.{ObjectId}
use Rattle.source.specs.Meaning.{Meaning, absent, failing, commit}
use Rattle.queue.specs.declared.entry.Entry.{Entry}
use Rattle.model.specs.declared.Step.{Step}
use Rattle.model.specs.Book.{Waits, Marks, Flags, SEEN, COMMON_REF_AND_SEEN, COMMON_AND_SEEN, Row, Walk, row, flags_at, drawn, stop, find, Source}
use Rattle.model.specs.Consecutive
use Rattle.model.specs.Steps.{found, Lookup, held, adds, Res, ok, no, sees, sees_at, taken}
use Rattle.model.specs.Consecutive.{entered, Push, commoned, Marking, Mark, PushUnseen, passed_on, Pass, passes_both, Next}
use Rattle.model.specs.declared.Reply.{Reply}
use Rattle.model.specs.declared.Reply.TheVariants.{Done, Have, NoneLeft, Told, Denied}
use Rattle.model.specs.Past.{In, Has, Parent}
use Rattle.model.specs.Steady.{World, Good, Ext, seen_rows, common_rows}
use Rattle.model.proofs.Basics.{in_enter, find_some}
use Rattle.model.proofs.Good.{ext_refl, ext_trans, seen_in, common_in, none_open, add_new}
use Rattle.model.proofs.Ops.{Finds, lookup_finds, lookup_nothing, entered_seen, entered_ref, entered_both, commoned_good, taken_good}

abbrev pub walk_of : Res → Walk
walk_of (ok s) = s
walk_of (no d s) = s

abbrev pub IsOk : Res → Type 0
IsOk (ok s) = Unit {0}
IsOk (no d s) = ⊥

-- a row of id i with SEEN, or with COMMON
abbrev pub HeldSeen : Walk → ObjectId → Type 0
HeldSeen s i = (k : ℕ) × ((row s k).id ≡ i) × ((flags_at s k).seen ≡ true)

abbrev pub HeldCommon : Walk → ObjectId → Type 0
HeldCommon s i = (k : ℕ) × ((row s k).id ≡ i) × ((flags_at s k).common ≡ true)

pub held_seen_ext : (s t : Walk) (i : ObjectId) → Ext s t → HeldSeen s i → HeldSeen t i
held_seen_ext s t i x h = (h.0, x.same_id h.0 (seen_in s h.0 h.2) ∙ h.1, x.seen_stays h.0 h.2)

pub held_common_ext : (s t : Walk) (i : ObjectId) → Ext s t → HeldCommon s i → HeldCommon t i
held_common_ext s t i x h = (h.0, x.same_id h.0 (common_in s h.0 h.2) ∙ h.1, x.common_stays h.0 h.2)

pub absent_has : (src : Source) (i : ObjectId) → src i ≡ absent → Has src i → ⊥
absent_has src i e h = subst D (sym e ∙ h.2) tt
  where
    D : Meaning → Type 0
    D absent = Unit {0}
    D (failing x) = ⊥
    D (commit d ps) = ⊥

pub stop_good : (W : World) (s : Walk) → Good W s → Good W (stop s)
unfolding seen_rows
stop_good W s G = record { tally = G.tally; pop = G.pop; fine = G.fine; cov = G.cov; ref = G.ref; ans = G.ans; from = G.from; uniq = G.uniq; room = G.room; short = G.short }

pub stop_ext : (s : Walk) → Ext s (stop s)
unfolding seen_rows common_rows
stop_ext s = record { longer = omega arith; same_parents = λ k h. refl; seens = omega arith; same_id = λ k h. refl; seen_stays = λ k h. h; common_stays = λ k h. h; popped_stays = λ k h. h; pays = omega arith; commons = omega arith; most = refl }

-- every parent of row k may be COMMON
abbrev pub Kid : World → Walk → ℕ → Type 0
Kid W s k = (k < length s.rows) × ((c : ObjectId) → Parent W.src (row s k).id c → Has W.src c → W.Cov c)

abbrev pub Kids : World → Walk → Marks → Type 0
Kids W s q = (e : Entry Step) → In e q → Kid W s e.value.row

kid_ext : (W : World) (s t : Walk) (k : ℕ) → Ext s t → Kid W s k → Kid W t k
kid_ext W s t k x h = (omega (arith, h.0, x.longer), λ c p hc. h.1 c (subst (λ (i : ObjectId). Parent W.src i c) (x.same_id k h.0) p) hc)

kids_ext : (W : World) (s t : Walk) (q : Marks) → Ext s t → Kids W s q → Kids W t q
kids_ext W s t q x h e i = kid_ext W s t e.value.row x (h e i)

cov_kid : (W : World) (s : Walk) (k : ℕ) (i : ObjectId) → k < length s.rows → (row s k).id ≡ i → W.Cov i → Kid W s k
cov_kid W s k i l e c = (l, λ x p hx. W.down (row s k).id x (subst W.Cov (sym e) c) p hx)

abbrev pub Moved : World → Walk → Res → Type 0
Moved W s out = Good W (walk_of out) × Ext s (walk_of out)

after : (W : World) (s t : Walk) (out : Res) → Ext s t → Moved W t out → Moved W s out
after W s t out x m = (m.0, ext_trans s t (walk_of out) x m.1)

pub marking_good : (W : World) (R : W.Real) (all : Bool) {g : ℕ} {ps : List ObjectId} {q : Marks} {s : Walk} {out : Res} → Marking W.src all g ps q s out
    → Good W s → Kids W s q → ((p : ObjectId) → In p ps → Has W.src p → W.Cov p) → Moved W s out
marking_good W R all (Consecutive.Marking.done {s = s}) G E C = (G, ext_refl s)
marking_good W R all (Consecutive.Marking.unseen {e = e} {q = q} {s = s} {out = out} h m) G E C =
    let a = entered_seen W s e.value.row G (E e (inl refl)).0 in
    after W s (entered SEEN s e.value.row) out a.1 (marking_good W R all m a.0 (λ x i. kid_ext W s _ x.value.row a.1 (E x (inr i))) C)
marking_good W R all (Consecutive.Marking.far {s = s} h f m) G E C = marking_good W R all m G (λ x i. E x (inr i)) C
marking_good W R all (Consecutive.Marking.near {e = e} {s = s} h f m) G E C =
    marking_good W R all m G (λ x i. E x (inr i))
    (λ p i hp. (E e (inl refl)).1 p ((row s e.value.row).date, (row s e.value.row).parents, G.from R e.value.row (E e (inl refl)).0, i) hp)
marking_good W R all (Consecutive.Marking.lost l m) G E C = marking_good W R all m G E (λ p i. C p (inr i))
marking_good W R all (Consecutive.Marking.barred {s = s} l) G E C = (stop_good W s G, stop_ext s)
marking_good W R all (Consecutive.Marking.had {p = p} {q = q} {s = s} {out = out} {k = k} {s' = t} l h m) G E C =
    let f = lookup_finds W R s p k t G l in
    after W s t out f.ext (marking_good W R all m f.good (kids_ext W s t q f.ext E) (λ x i. C x (inr i)))
marking_good W R all (Consecutive.Marking.gains {g = g} {p = p} {q = q} {s = s} {out = out} {k = k} {s' = t} l h m) G E C =
    let f = lookup_finds W R s p k t G l in
    let cp : W.Cov p = C p (inl refl) f.has in
    let a = commoned_good W t k f.good f.range h (subst W.Cov (sym f.the_id) cp) in
    let x = ext_trans s t (commoned t k) f.ext a.1 in
    after W s (commoned t k) out x
    (marking_good W R all m a.0
    (λ e i. ⊎_elim
    (λ eq. subst (λ (y : Entry Step). Kid W (commoned t k) y.value.row) (sym eq) (kid_ext W t (commoned t k) k a.1 (cov_kid W t k p f.range f.the_id cp)))
    (λ i'. kid_ext W s (commoned t k) e.value.row x (E e i'))
    (in_enter {V = Step} (record { date = (row t k).date; value = record { row = k; generation = g + 1 } }) e q i))
    (λ y i. C y (inr i)))

one_kid : (W : World) (s : Walk) (k : ℕ) (d : ℤ) → Kid W s k → Kids W s (record { date = d; value = record { row = k; generation = 0 } } ∷ [])
one_kid W s k d h e (inl i) = subst (λ (y : Entry Step). Kid W s y.value.row) (sym i) h
one_kid W s k d h e (inr i) = absurd i

-- mark; an id that is marked itself has COMMON afterwards
pub record Marked (W : World) (itself : Bool) (i : ObjectId) (s : Walk) (out : Res) : Type 0 where
  pub good : Good W (walk_of out)
  pub ext : Ext s (walk_of out)
  pub common_now : itself ≡ true → IsOk out → Has W.src i → HeldCommon (walk_of out) i

pub mark_good : (W : World) (R : W.Real) (itself all : Bool) (i : ObjectId) (s : Walk) (out : Res) → Good W s
    → (itself ≡ true → Has W.src i → W.Cov i) → ((c : ObjectId) → Parent W.src i c → Has W.src c → W.Cov c)
    → Mark W.src itself all i s out → Marked W itself i s out
mark_good W R itself all i s out G ci cs (Consecutive.Mark.gone l) =
    record { good = G; ext = ext_refl s; common_now = λ x y h. absurd (absent_has W.src i (lookup_nothing W.src s i l) h) }
mark_good W R itself all i s out G ci cs (Consecutive.Mark.refused l) = record { good = stop_good W s G; ext = stop_ext s; common_now = λ x y h. absurd y }
mark_good W R itself all i s out G ci cs (Consecutive.Mark.already {k = k} {s' = t} l h) =
    let f = lookup_finds W R s i k t G l in
    record { good = f.good; ext = f.ext; common_now = λ x y z. (k, f.the_id, h) }
mark_good W R itself all i s out G ci cs (Consecutive.Mark.with_it {k = k} {s' = t} it l h m) =
    let f = lookup_finds W R s i k t G l in
    let c : W.Cov i = ci it f.has in
    let a = commoned_good W t k f.good f.range h (subst W.Cov (sym f.the_id) c) in
    let kid = kid_ext W t (commoned t k) k a.1 (cov_kid W t k i f.range f.the_id c) in
    let r = marking_good W R all m a.0 (one_kid W (commoned t k) k (row t k).date kid) (λ p no-p. absurd no-p) in
    record {
      good = r.0;
      ext = ext_trans s t (walk_of out) f.ext (ext_trans t (commoned t k) (walk_of out) a.1 r.1);
      common_now = λ x y z. held_common_ext (commoned t k) (walk_of out) i r.1 (k, a.1.same_id k f.range ∙ f.the_id, a.2);
    }
mark_good W R itself all i s out G ci cs (Consecutive.Mark.without {k = k} {s' = t} it l h m) =
    let f = lookup_finds W R s i k t G l in
    let kid : Kid W t k = (f.range, λ c p hc. cs c (subst (λ (j : ObjectId). Parent W.src j c) f.the_id p) hc) in
    let r = marking_good W R all m f.good (one_kid W t k (row t k).date kid) (λ p no-p. absurd no-p) in
    record { good = r.0; ext = ext_trans s t (walk_of out) f.ext r.1; common_now = λ x y z. absurd (both_ways itself it x) }

-- push
pub record Pushed (W : World) (i : ObjectId) (s : Walk) (out : Res) : Type 0 where
  pub good : Good W (walk_of out)
  pub ext : Ext s (walk_of out)
  pub seen_now : IsOk out → Has W.src i → HeldSeen (walk_of out) i

abbrev pub Enters : World → Flags → Walk → ℕ → Type 0
Enters W m t k = Good W (entered m t k) × Ext t (entered m t k) × ((flags_at (entered m t k) k).seen ≡ true)

pub push_good : (W : World) (R : W.Real) (m : Flags) (i : ObjectId) (s : Walk) (out : Res) → Good W s
    → ((k : ℕ) (t : Walk) → Lookup W.src s i (found k t) → Finds W s i k t → Enters W m t k)
    → Push W.src m i s out → Pushed W i s out
push_good W R m i s out G en (Consecutive.Push.enters k t l) =
    let f = lookup_finds W R s i k t G l in
    let a = en k t l f in
    record { good = a.0; ext = ext_trans s t (entered m t k) f.ext a.1; seen_now = λ x y. (k, a.1.same_id k f.range ∙ f.the_id, a.2) }
push_good W R m i s out G en (Consecutive.Push.passes l) = record { good = G; ext = ext_refl s; seen_now = λ x h. absurd (absent_has W.src i (lookup_nothing W.src s i l) h) }
push_good W R m i s out G en (Consecutive.Push.denies d l) = record { good = stop_good W s G; ext = stop_ext s; seen_now = λ x h. absurd x }

pub push_seen : (W : World) (R : W.Real) (i : ObjectId) (s : Walk) (out : Res) → Good W s → Push W.src SEEN i s out → Pushed W i s out
push_seen W R i s out G p = push_good W R SEEN i s out G (λ k t l f. entered_seen W t k f.good f.range) p

-- a row that a lookup gives lacks SEEN where the id was not seen
pub unseen_row : (src : Source) (s : Walk) (i : ObjectId) (k : ℕ) (t : Walk) → sees s i ≡ false → Lookup src s i (found k t) → (flags_at t k).seen ≡ false
unseen_row src s i k t u (held _ e) = ap (sees_at s) (sym e) ∙ u
unseen_row src s i k t u (adds d ps e c x y) = ap (λ (r : Row). r.flags.seen) (add_new s i d ps)

pub push_ref : (W : World) (R : W.Real) (i : ObjectId) (s : Walk) (out : Res) → Good W s → sees s i ≡ false → W.Ref i → Push W.src COMMON_REF_AND_SEEN i s out → Pushed W i s out
push_ref W R i s out G u r p = push_good W R COMMON_REF_AND_SEEN i s out G
    (λ k t l f. entered_ref W t k f.good f.range (unseen_row W.src s i k t u l) (subst W.Ref (sym f.the_id) r)) p

push_on : (W : World) (R : W.Real) (both : Bool) (i : ObjectId) (s : Walk) (out : Res) → Good W s → sees s i ≡ false → (both ≡ true → Has W.src i → W.Cov i) → Push W.src (passed_on both) i s out → Pushed W i s out
push_on W R true i s out G u c p = push_good W R COMMON_AND_SEEN i s out G
    (λ k t l f. entered_both W t k f.good f.range (unseen_row W.src s i k t u l) (subst W.Cov (sym f.the_id) (c refl f.has))) p
push_on W R false i s out G u c p = push_seen W R i s out G p

pub sees_held : (s : Walk) (i : ObjectId) → sees s i ≡ true → HeldSeen s i
sees_held s i h = go (find i s.rows) refl h
  where
    go : (o : Option ℕ) → find i s.rows ≡ o → sees_at s o ≡ true → HeldSeen s i
    go none e h' = absurd (false≢true h')
    go (some k) e h' = (k, (find_some i s.rows k e).1, h')

pub push_unseen : (W : World) (R : W.Real) (both : Bool) (i : ObjectId) (s : Walk) (out : Res) → Good W s → (both ≡ true → Has W.src i → W.Cov i) → PushUnseen W.src (passed_on both) i s out → Pushed W i s out
push_unseen W R both i s out G c (Consecutive.PushUnseen.skips h) = record { good = G; ext = ext_refl s; seen_now = λ x y. sees_held s i h }
push_unseen W R both i s out G c (Consecutive.PushUnseen.pushes h p) = push_on W R both i s out G h c p

-- a drawn row passes on to its parents
pub record Passed (W : World) (ps : List ObjectId) (s : Walk) (out : Res) : Type 0 where
  pub good : Good W (walk_of out)
  pub ext : Ext s (walk_of out)
  pub seen_now : IsOk out → (p : ObjectId) → In p ps → Has W.src p → HeldSeen (walk_of out) p

pub pass_good : (W : World) (R : W.Real) (both : Bool) {ps : List ObjectId} {s : Walk} {out : Res} → Pass W.src both ps s out → Good W s
    → ((p : ObjectId) → In p ps → both ≡ true → Has W.src p → W.Cov p) → Passed W ps s out
pass_good W R both (Consecutive.Pass.over {s = s}) G C = record { good = G; ext = ext_refl s; seen_now = λ x p i. absurd i }
pass_good W R both (Consecutive.Pass.stuck {p = p} {s = s} {d = d} {s' = t} u) G C =
    let a = push_unseen W R both p s (no d t) G (C p (inl refl)) u in
    record { good = a.good; ext = a.ext; seen_now = λ x. absurd x }
pass_good W R both (Consecutive.Pass.plain {p = p} {ps = ps} {s = s} {s' = t} {out = out} b u m) G C =
    let a = push_unseen W R both p s (ok t) G (C p (inl refl)) u in
    let r = pass_good W R both m a.good (λ x i. C x (inr i)) in
    record {
      good = r.good;
      ext = ext_trans s t (walk_of out) a.ext r.ext;
      seen_now = λ y x i h. ⊎_elim (λ e. subst (HeldSeen (walk_of out)) (sym e) (held_seen_ext t (walk_of out) p r.ext (a.seen_now tt (subst (Has W.src) e h)))) (λ i'. r.seen_now y x i' h) i;
    }
pass_good W R both (Consecutive.Pass.halted {p = p} {s = s} {s' = t} {d = d} {s'' = t'} b u k) G C =
    let a = push_unseen W R both p s (ok t) G (C p (inl refl)) u in
    let c = mark_good W R false true p t (no d t') a.good (λ x. absurd (false≢true x)) (λ c pc hc. W.down p c (C p (inl refl) b (pc.0, pc.1, pc.2)) pc hc) k in
    record { good = c.good; ext = ext_trans s t t' a.ext c.ext; seen_now = λ x. absurd x }
pass_good W R both (Consecutive.Pass.marked {p = p} {ps = ps} {s = s} {s' = t} {s'' = t'} {out = out} b u k m) G C =
    let a = push_unseen W R both p s (ok t) G (C p (inl refl)) u in
    let c = mark_good W R false true p t (ok t') a.good (λ x. absurd (false≢true x)) (λ c pc hc. W.down p c (C p (inl refl) b (pc.0, pc.1, pc.2)) pc hc) k in
    let r = pass_good W R both m c.good (λ x i. C x (inr i)) in
    let x2 = ext_trans t t' (walk_of out) c.ext r.ext in
    record {
      good = r.good;
      ext = ext_trans s t (walk_of out) a.ext x2;
      seen_now = λ y x i h. ⊎_elim (λ e. subst (HeldSeen (walk_of out)) (sym e) (held_seen_ext t (walk_of out) p x2 (a.seen_now tt (subst (Has W.src) e h)))) (λ i'. r.seen_now y x i' h) i;
    }

-- the draws of next
abbrev pub May : World → Reply → Type 0
May W Done = Unit {0}
May W (Have k) = W.Ans k
May W NoneLeft = Unit {0}
May W (Told b) = Unit {0}
May W (Denied d) = (k : ℕ) → W.Ans k

-- what an answer says: the row had neither POPPED nor COMMON; it has POPPED now, and its parents are seen
pub record Fresh (W : World) (s : Walk) (k : ℕ) (t : Walk) : Type 0 where
  pub unpopped : (flags_at s k).popped ≡ true → ⊥
  pub uncommon : (flags_at s k).common ≡ true → ⊥
  pub popped_now : (flags_at t k).popped ≡ true
  pub kids_seen : (p : ObjectId) → Parent W.src (row t k).id p → Has W.src p → HeldSeen t p

abbrev pub Says : World → Walk → Reply → Walk → Type 0
Says W s Done t = Unit {0}
Says W s (Have k) t = Fresh W s k t
Says W s NoneLeft t = (t.count ≡ 0) ⊎ (t.queue ≡ [])
Says W s (Told b) t = Unit {0}
Says W s (Denied d) t = Unit {0}

says_before : (W : World) (r s : Walk) (a : Reply) (t : Walk) → Ext r s → Says W s a t → Says W r a t
says_before W r s Done t x h = h
says_before W r s (Have k) t x h = record { unpopped = λ p. h.unpopped (x.popped_stays k p); uncommon = λ c. h.uncommon (x.common_stays k c); popped_now = h.popped_now; kids_seen = h.kids_seen }
says_before W r s NoneLeft t x h = h
says_before W r s (Told b) t x h = h
says_before W r s (Denied d) t x h = h

pub record Nexted (W : World) (s : Walk) (a : Reply) (t : Walk) : Type 0 where
  pub good : Good W t
  pub ext : Ext s t
  pub says : Says W s a t

-- the parents of a drawn row may be COMMON where both flags are passed on
pub pass_cov : (W : World) (R : W.Real) (s : Walk) (k : ℕ) (q : Waits) → Good W s → k < length s.rows
    → (p : ObjectId) → In p (row s k).parents → passes_both (flags_at s k) ≡ true → Has W.src p → W.Cov p
pass_cov W R s k q G l p i b hp =
    let pa : Parent W.src (row s k).id p = ((row s k).date, (row s k).parents, G.from R k l, i) in
    ⊎_elim (λ c. W.down (row s k).id p (G.cov k c) pa hp) (λ r. W.ref_down (row s k).id p (G.ref k r) pa hp) (or_cases (flags_at s k).common (flags_at s k).cref b)

commit_same : (src : Source) (i : ObjectId) (d e : ℤ) (ps rs : List ObjectId) → src i ≡ commit d ps → src i ≡ commit e rs → ps ≡ rs
commit_same src i d e ps rs x y = ap of_commit (sym x ∙ y)
  where
    of_commit : Meaning → List ObjectId
    of_commit absent = []
    of_commit (failing z) = []
    of_commit (commit z zs) = zs

pub drawn_ext : (s : Walk) (k : Entry ℕ) (q : Waits) → s.queue ≡ k ∷ q → Ext s (drawn s q)
unfolding seen_rows common_rows
drawn_ext s k q e = record {
  longer = omega arith;
  same_parents = λ j h. refl;
  seens = omega arith;
  same_id = λ j h. refl;
  seen_stays = λ j h. h;
  common_stays = λ j h. h;
  popped_stays = λ j h. h;
  pays = omega (arith, ap {A = Waits} {B = ℕ} (λ x. length x) e);
  commons = omega arith;
  most = refl;
}

pub next_good : (W : World) (R : W.Real) {s : Walk} {a : Reply} {t : Walk} → Next W.src s a t → W.Exact → ((k : ℕ) → W.Pop k) → Good W s → May W a → Nexted W s a t
unfolding seen_rows common_rows
next_good W R (Consecutive.Next.empty {s = s} e) ex pp G may = record { good = G; ext = ext_refl s; says = inr e }
next_good W R (Consecutive.Next.spent {s = s} {e = x₀} {q = q} e z) ex pp G may =
    let d = taken_good W s x₀ q G e in
    record { good = d.left (none_open s x₀.value (omega (arith, z, G.tally ex)) d.seen); ext = drawn_ext s x₀ q e; says = inl z }
next_good W R (Consecutive.Next.answers {s = s} {e = x₀} {q = q} {s' = t} e n u m) ex pp G may =
    let d = taken_good W s x₀ q G e in
    let r = pass_good W R (passes_both (flags_at s x₀.value)) m (d.good (inr may) (pp x₀.value)) (pass_cov W R s x₀.value q G d.range) in
    let x = ext_trans s (taken s x₀.value q) t d.ext r.ext in
    record {
      good = r.good;
      ext = x;
      says = record {
        unpopped = λ h. both_ways (flags_at s x₀.value).popped d.unpopped h;
        uncommon = λ h. both_ways (flags_at s x₀.value).common u h;
        popped_now = r.ext.popped_stays x₀.value d.popped_now;
        kids_seen = λ p pa hp. r.seen_now tt p
            (subst (λ (l : List ObjectId). In p l) (commit_same W.src (row s x₀.value).id pa.0 (row s x₀.value).date pa.1 (row s x₀.value).parents (subst (λ (i : ObjectId). W.src i ≡ commit pa.0 pa.1) (x.same_id x₀.value d.range) pa.2) (G.from R x₀.value d.range)) pa.3) hp;
      };
    }
next_good W R (Consecutive.Next.goes_on {s = s} {e = x₀} {q = q} {s' = t} {a = a} {s'' = t'} e n c m o) ex pp G may =
    let d = taken_good W s x₀ q G e in
    let r = pass_good W R (passes_both (flags_at s x₀.value)) m (d.good (inl c) (pp x₀.value)) (pass_cov W R s x₀.value q G d.range) in
    let x = ext_trans s (taken s x₀.value q) t d.ext r.ext in
    let f = next_good W R o ex pp r.good may in
    record { good = f.good; ext = ext_trans s t t' x f.ext; says = says_before W s t a t' x f.says }
next_good W R (Consecutive.Next.stops {s = s} {e = x₀} {q = q} {d = n} {s' = t} e z m) ex pp G may =
    let d = taken_good W s x₀ q G e in
    let r = pass_good W R (passes_both (flags_at s x₀.value)) m (d.good (inr (may x₀.value)) (pp x₀.value)) (pass_cov W R s x₀.value q G d.range) in
    let x = ext_trans s (taken s x₀.value q) t d.ext r.ext in
    record { good = r.good; ext = x; says = tt }
