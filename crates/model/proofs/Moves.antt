-- What lookups give to pushes and marks.
use Rattle.std.proofs.Common.{◌≡◌, ℕ, ◌+◌, ◌<◌, ◌≤◌, Bool, true, false, not, ◌||◌, ltb, ◌⊎◌, List, [], ◌∷◌, length, get_or, drop, Some, None, Ok, Err, Result, sym, refl, ap, ◌∙◌, subst, inl, inr, arith}
use Rattle.std.proofs.lemmas.List.{drop_more}
use Rattle.model.proofs.Basics.{length_enter}
use Rattle.source.specs.declared.ObjectId.{ObjectId}
use Rattle.book.specs.declared.types.Denial.{Denial}
use Rattle.book.specs.declared.types.Head.{Head}
use Rattle.book.specs.Model.{Model, no_entry, summed}
use Rattle.queue.specs.Waiting.{enter}
use Rattle.model.specs.declared.Step.{Step}
use Rattle.model.specs.declared.Turn.{Turn}
use Rattle.model.specs.Past
use Rattle.model.specs.Past.{Called}
use Rattle.model.specs.declared.Event.{Event}
use Rattle.model.specs.declared.Call.{Call}
use Rattle.model.specs.declared.Reply.{Reply}
use Rattle.model.specs.declared.Reply.TheVariants.{Have, Denied}
use Rattle.std.proofs.lemmas.Bool.{true≢false, false≢true}
use Rattle.model.specs.Book.{Waits, Marks, Flags, Row, Walk, row, flags_at, Source, place_mark}
use Rattle.model.specs.Consecutive as steps
use Rattle.model.specs.Steps.{taken}
use Rattle.model.specs.Steps.{Res, ok, no, sees}
use Rattle.model.specs.Consecutive.{Push, Marking, Mark, entered, commoned, alone}
use Rattle.model.specs.Steady.{Ext, Held, common_rows}
use Rattle.model.specs.View.{unpack, walk_of, Admits}
use Rattle.model.specs.Parts.{ended, Spread, SpreadOne, Visited, PassedOne, Took}
use Rattle.model.proofs.Looks.{Looks, view_at, flags_view}
use Rattle.model.proofs.Runs.{unseen_row}
use Rattle.model.proofs.Good.{ext_trans}
use Rattle.model.proofs.Fits.{lookup_ext, common_ext, common_up, held_ext, held_gains}

-- what a read of a row says of the model's row
pub head_flags : (m : Model) (q : Waits) (c k : ℕ) (h : Head) → h ≡ summed (get_or m.entries k no_entry) → flags_at (walk_of m q c) k ≡ unpack h.flags.bits
head_flags m q c k h e = flags_view m q c k ∙ ap (λ (x : Head). unpack x.flags.bits) (sym e)

pub head_date : (m : Model) (q : Waits) (c k : ℕ) (h : Head) → h ≡ summed (get_or m.entries k no_entry) → h.date ≡ (row (walk_of m q c) k).date
head_date m q c k h e = ap (λ (x : Head). x.date) e ∙ sym (ap (λ (r : Row). r.date) (view_at m.entries k))

pub push_err : (src : Source) (m : Flags) (i : ObjectId) (s t : Walk) (d : Denial) → Looks src s i t (Err d) → Push src m i s (no d t)
push_err src m i s t d l = subst (λ (x : Walk). Push src m i s (no d x)) (sym l.1) (steps.Push.denies d l.0)

pub push_none : (src : Source) (m : Flags) (i : ObjectId) (s t : Walk) → Looks src s i t (Ok None) → Push src m i s (ok t)
push_none src m i s t l = subst (λ (x : Walk). Push src m i s (ok x)) (sym l.1) (steps.Push.passes l.0)

pub push_some : (src : Source) (m : Flags) (i : ObjectId) (s t u : Walk) (k : ℕ) → Looks src s i t (Ok (Some k)) → u ≡ entered m t k → Push src m i s (ok u)
push_some src m i s t u k l e = subst (λ (x : Walk). Push src m i s (ok x)) (sym e) (steps.Push.enters k t l)

pub may_push : (src : Source) (s t : Walk) (i : ObjectId) (k mask : ℕ) → (mask ≡ 8) ⊎ (((mask ≡ 40) ⊎ (mask ≡ 12)) × (sees s i ≡ false)) → Looks src s i t (Ok (Some k)) → Admits mask (flags_at t k)
may_push src s t i k mask (inl e) l = inl e
may_push src s t i k mask (inr (w, u)) l = inr (w, unseen_row src s i k t u l)

-- one parent of a drawn row
pub spread_err : (src : Source) (g : ℕ) (p : ObjectId) (q q' : Marks) (s t : Walk) (d : Denial) → Looks src s p t (Err d) → SpreadOne src g p q s (Err d) q' t
spread_err src g p q q' s t d l all ps = subst (λ (x : Walk). Marking src all g (p ∷ ps) q s (no d x)) (sym l.1) (steps.Marking.barred l.0)

pub spread_none : (src : Source) (g : ℕ) (p : ObjectId) (q : Marks) (s t : Walk) → Looks src s p t (Ok None) → SpreadOne src g p q s (Ok tt) q t
spread_none src g p q s t l all ps out m = steps.Marking.lost l.0 (subst (λ (x : Walk). Marking src all g ps q x out) l.1 m)

pub spread_had : (src : Source) (g : ℕ) (p : ObjectId) (q : Marks) (s t : Walk) (k : ℕ) → Looks src s p t (Ok (Some k)) → (flags_at t k).common ≡ true → SpreadOne src g p q s (Ok tt) q t
spread_had src g p q s t k l h all ps out m = steps.Marking.had l h m

pub spread_gains : (src : Source) (g : ℕ) (p : ObjectId) (q q' : Marks) (s t u : Walk) (k : ℕ) → Looks src s p t (Ok (Some k)) → (flags_at t k).common ≡ false
    → u ≡ commoned t k → q' ≡ enter (record { date = (row t k).date; value = record { row = k; generation = g + 1 } }) q → SpreadOne src g p q s (Ok tt) q' u
spread_gains src g p q q' s t u k l h e f all ps out m = steps.Marking.gains l h (subst (λ (x : Walk). Marking src all g ps (place_mark t.rows (record { row = k; generation = g + 1 }) q) x out) e (subst (λ (y : Marks). Marking src all g ps y u out) f m))

pub gains_held : (src : Source) (g n n' : ℕ) (p : ObjectId) (q q' : Marks) (s t u : Walk) (k : ℕ) → Looks src s p t (Ok (Some k)) → (flags_at t k).common ≡ false
    → u ≡ commoned t k → q' ≡ enter (record { date = (row t k).date; value = record { row = k; generation = g + 1 } }) q → Held s q n 0 → g ≤ common_rows s → n' ≤ n + 1 → Held u q' n' 0
gains_held src g n n' p q q' s t u k l h e f H y c =
    let x = lookup_ext src s p k t l in
    subst (λ (v : Walk). Held v q' n' 0) (sym e) (subst (λ (r : Marks). Held (commoned t k) r n' 0) (sym f)
    (held_gains t k g n n' (row t k).date q (held_ext s t q n 0 H x.0) x.1 (omega (arith, y, x.0.commons)) (common_ext t k x.1) (common_up t k x.1 h) c))

pub gains_ext : (src : Source) (s t u : Walk) (i : ObjectId) (k : ℕ) → Looks src s i t (Ok (Some k)) → u ≡ commoned t k → Ext s u
gains_ext src s t u i k l e = let x = lookup_ext src s i k t l in subst (λ (v : Walk). Ext s v) (sym e) (ext_trans s t (commoned t k) x.0 (common_ext t k x.1))

-- the room that there is for one more
pub gains_room : (src : Source) (n : ℕ) (q : Marks) (s t u : Walk) (i : ObjectId) (k r : ℕ) → Looks src s i t (Ok (Some k)) → (flags_at t k).common ≡ false → u ≡ commoned t k → Held s q n 0 → common_rows u ≤ r → (length q < r) × (n ≤ r)
gains_room src n q s t u i k r l h e H b =
    let x = lookup_ext src s i k t l in
    let up : common_rows u ≡ common_rows t + 1 = ap common_rows e ∙ common_up t k x.1 h in
    (omega (arith, b, up, H.brief, x.0.commons), omega (arith, b, up, H.counted, x.0.commons))

pub gains_pays : (src : Source) (q q' : Marks) (s t u : Walk) (i : ObjectId) (k g : ℕ) → Looks src s i t (Ok (Some k)) → (flags_at t k).common ≡ false → u ≡ commoned t k
    → q' ≡ enter (record { date = (row t k).date; value = record { row = k; generation = g } }) q → length q' + common_rows s ≤ length q + common_rows u
gains_pays src q q' s t u i k g l h e f =
    let x = lookup_ext src s i k t l in
    let up : common_rows u ≡ common_rows t + 1 = ap common_rows e ∙ common_up t k x.1 h in
    omega (arith, up, x.0.commons, ap {B = ℕ} (λ (y : Marks). length y) f ∙ length_enter {V = Step} (record { date = (row t k).date; value = record { row = k; generation = g } }) q)

-- one more parent of a row is done with
pub spread_step : (src : Source) (g : ℕ) (ps : List ObjectId) (n : ℕ) (d : ObjectId) (q q' : Marks) (s t : Walk) → n < length ps → SpreadOne src g (get_or ps n d) q s (Ok tt) q' t
    → (all : Bool) (out : Res) → Marking src all g (drop (n + 1) ps) q' t out → Marking src all g (drop n ps) q s out
spread_step src g ps n d q q' s t l h all out m = subst (λ (x : List ObjectId). Marking src all g x q s out) (sym (drop_more ps n d l)) (h all (drop (n + 1) ps) out m)

pub spread_stop : (src : Source) (g : ℕ) (ps : List ObjectId) (n : ℕ) (p d : ObjectId) (q q' : Marks) (s t : Walk) (b : Denial) → n < length ps → SpreadOne src g (get_or ps n d) q s (Err b) q' t
    → (all : Bool) → Marking src all g (drop n ps) q s (no b t)
spread_stop src g ps n p d q q' s t b l h all = subst (λ (x : List ObjectId). Marking src all g x q s (no b t)) (sym (drop_more ps n d l)) (h all (drop (n + 1) ps))

-- a drawn row
pub visit_unseen : (src : Source) (all : Bool) (e : Step) (q : Marks) (s t : Walk) → (flags_at s e.row).seen ≡ false → t ≡ entered (unpack 8) s e.row → Visited src all e q s (Ok tt) q t
visit_unseen src all e q s t u x date out m g = steps.Marking.unseen u (subst (λ (y : Walk). Marking src all g [] q y out) x (m g))

pub visit_far : (src : Source) (all : Bool) (e : Step) (q : Marks) (s : Walk) → (flags_at s e.row).seen ≡ true → (all || ltb e.generation 2) ≡ false → Visited src all e q s (Ok tt) q s
visit_far src all e q s u f date out m g = steps.Marking.far u f (m g)

pub visit_near : (src : Source) (all : Bool) (e : Step) (q q' : Marks) (s t : Walk) (r : Result (Unit {0}) Denial) → (flags_at s e.row).seen ≡ true → (all || ltb e.generation 2) ≡ true
    → Spread src e.generation (row s e.row).parents q s r q' t → Visited src all e q s r q' t
visit_near src all e q q' s t (Ok x) u f h = λ date out m g. steps.Marking.near u f (h all out (m e.generation))
visit_near src all e q q' s t (Err b) u f h = λ date g. steps.Marking.near u f (h all)

-- a mark
pub mark_err : (src : Source) (itself all : Bool) (i : ObjectId) (s t : Walk) (d : Denial) → Looks src s i t (Err d) → Mark src itself all i s (no d t)
mark_err src itself all i s t d l = subst (λ (x : Walk). Mark src itself all i s (no d x)) (sym l.1) (steps.Mark.refused l.0)

pub mark_none : (src : Source) (itself all : Bool) (i : ObjectId) (s t : Walk) → Looks src s i t (Ok None) → Mark src itself all i s (ok t)
mark_none src itself all i s t l = subst (λ (x : Walk). Mark src itself all i s (ok x)) (sym l.1) (steps.Mark.gone l.0)

pub mark_with : (src : Source) (itself all : Bool) (i : ObjectId) (s t u : Walk) (q : Marks) (k : ℕ) (out : Res) → itself ≡ true → Looks src s i t (Ok (Some k)) → (flags_at t k).common ≡ false
    → u ≡ commoned t k → q ≡ alone t k → Marking src all 0 [] q u out → Mark src itself all i s out
mark_with src itself all i s t u q k out it l h e f m = steps.Mark.with_it it l h (subst (λ (x : Walk). Marking src all 0 [] (alone t k) x out) e (subst (λ (y : Marks). Marking src all 0 [] y u out) f m))

pub mark_without : (src : Source) (itself all : Bool) (i : ObjectId) (s t : Walk) (q : Marks) (k : ℕ) (out : Res) → itself ≡ false → Looks src s i t (Ok (Some k)) → (flags_at t k).common ≡ false
    → q ≡ alone t k → Marking src all 0 [] q t out → Mark src itself all i s out
mark_without src itself all i s t q k out it l h f m = steps.Mark.without it l h (subst (λ (y : Marks). Marking src all 0 [] y t out) f m)

-- what a drawn row passes on
pub pass_one_stuck : (src : Source) (both : Bool) (p : ObjectId) (s t : Walk) (d : Denial) → steps.PushUnseen src (steps.passed_on both) p s (no d t) → PassedOne src both p s (Err d) t
pass_one_stuck src both p s t d u ps = steps.Pass.stuck u

pub pass_one_plain : (src : Source) (both : Bool) (p : ObjectId) (s t : Walk) → both ≡ false → steps.PushUnseen src (steps.passed_on both) p s (ok t) → PassedOne src both p s (Ok tt) t
pass_one_plain src both p s t b u ps out m = steps.Pass.plain b u m

pub pass_one_marked : (src : Source) (both : Bool) (p : ObjectId) (s t v : Walk) (r : Result (Unit {0}) Denial) → both ≡ true → steps.PushUnseen src (steps.passed_on both) p s (ok t) → Mark src false true p t (ended r v) → PassedOne src both p s r v
pass_one_marked src both p s t v (Ok x) b u k = λ ps out m. steps.Pass.marked b u k m
pass_one_marked src both p s t v (Err d) b u k = λ ps. steps.Pass.halted b u k

pub pass_step : (src : Source) (both : Bool) (ps : List ObjectId) (n : ℕ) (d : ObjectId) (s t : Walk) → n < length ps → PassedOne src both (get_or ps n d) s (Ok tt) t
    → (out : Res) → steps.Pass src both (drop (n + 1) ps) t out → steps.Pass src both (drop n ps) s out
pass_step src both ps n d s t l h out m = subst (λ (x : List ObjectId). steps.Pass src both x s out) (sym (drop_more ps n d l)) (h (drop (n + 1) ps) out m)

pub pass_stop : (src : Source) (both : Bool) (ps : List ObjectId) (n : ℕ) (d : ObjectId) (s t : Walk) (b : Denial) → n < length ps → PassedOne src both (get_or ps n d) s (Err b) t → steps.Pass src both (drop n ps) s (no b t)
pass_stop src both ps n d s t b l h = subst (λ (x : List ObjectId). steps.Pass src both x s (no b t)) (sym (drop_more ps n d l)) (h (drop (n + 1) ps))

-- the turns of a next
module _ (src : Source) (s t : Walk) (r : Turn) (T : Took s r t) where
  same_pass : (u : Res) → steps.Pass src r.both (row t r.row).parents t u → (row t r.row).parents ≡ (row s r.row).parents
      → steps.Pass src (steps.passes_both (flags_at s T.entry.value)) (row s T.entry.value).parents (taken s T.entry.value T.rest) u
  same_pass u p e =
      subst (λ (k : ℕ). steps.Pass src (steps.passes_both (flags_at s k)) (row s k).parents (taken s k T.rest) u) (sym T.value)
      (subst (λ (x : Walk). steps.Pass src (steps.passes_both (flags_at s r.row)) (row s r.row).parents x u) T.is
      (subst (λ (b : Bool). steps.Pass src b (row s r.row).parents t u) T.passes
      (subst (λ (ps : List ObjectId). steps.Pass src r.both ps t u) e p)))

  common_there : r.answered ≡ true → (flags_at s T.entry.value).common ≡ false
  common_there h = subst (λ (k : ℕ). (flags_at s k).common ≡ false) (sym T.value) (go (flags_at s r.row).common (sym h ∙ T.answers))
    where
      go : (b : Bool) → true ≡ not b → b ≡ false
      go true e = absurd (true≢false e)
      go false e = refl

  common_here : r.answered ≡ false → (flags_at s T.entry.value).common ≡ true
  common_here h = subst (λ (k : ℕ). (flags_at s k).common ≡ true) (sym T.value) (go (flags_at s r.row).common (sym h ∙ T.answers))
    where
      go : (b : Bool) → false ≡ not b → b ≡ true
      go true e = refl
      go false e = absurd (false≢true e)

  pub next_stops : (v : Walk) (d : Denial) → (row t r.row).parents ≡ (row s r.row).parents → steps.Pass src r.both (row t r.row).parents t (no d v) → steps.Next src s (Denied d) v
  next_stops v d e p = steps.Next.stops T.waited T.counted (same_pass (no d v) p e)

  pub next_answers : (v : Walk) → (row t r.row).parents ≡ (row s r.row).parents → steps.Pass src r.both (row t r.row).parents t (ok v) → r.answered ≡ true → steps.Next src s (Have r.row) v
  next_answers v e p h = subst (λ (k : ℕ). steps.Next src s (Have k) v) T.value (steps.Next.answers T.waited T.counted (common_there h) (same_pass (ok v) p e))

  pub next_goes_on : (v : Walk) → (row t r.row).parents ≡ (row s r.row).parents → steps.Pass src r.both (row t r.row).parents t (ok v) → r.answered ≡ false → (a : Reply) (u : Walk) → steps.Next src v a u → steps.Next src s a u
  next_goes_on v e p h a u n = steps.Next.goes_on T.waited T.counted (common_here h) (same_pass (ok v) p e) n

  pub took_less : length t.queue + 1 ≡ length s.queue
  took_less = ap (λ (x : Walk). length x.queue + 1) T.is ∙ (let y = ap {B = ℕ} (λ (q : Waits). length q) T.waited in omega (arith, y))

-- calls and pasts
pub called_past : (ran : Past.Doing) (s t : Walk) (c : Call) (a : Reply) (h : List Event) → Called ran s c a t → Past.PastOf ran h s → Past.PastOf ran (record { asked = c; gave = a } ∷ h) t
called_past ran s t c a h (inl (st, ea, et)) p = subst (λ (x : Walk). Past.PastOf ran (record { asked = c; gave = a } ∷ h) x) (sym et) (subst (λ (y : Reply). Past.PastOf ran (record { asked = c; gave = y } ∷ h) s) (sym ea) (Past.PastOf.denied c p st))
called_past ran s t c a h (inr (ns, r)) p = Past.PastOf.called p ns r
