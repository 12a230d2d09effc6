-- The skipping code's equations as steps of the model, and what its parts give to one another.
use Rattle.std.proofs.Common.{◌≡◌, ℕ, zero, suc, ◌+◌, ◌-◌, ◌<◌, ◌≤◌, Bool, true, false, cond, ◌||◌, List, [], ◌∷◌, ◌++◌, length, get_or, drop, set, ℤ, Some, None, Ok, Err, Result, sym, refl, ap, ◌∙◌, subst, arith}
use mathlib.Core.Option as mo
use mathlib.Core.Option.{none, some}
use Rattle.std.proofs.lemmas.List.{drop_more}
use Rattle.std.proofs.lemmas.Bool.{both_ways}
use Rattle.source.specs.declared.ObjectId.{ObjectId}
use Rattle.source.specs.Ids.{is_same_id}
use Rattle.source.specs.Meaning.{Meaning, absent, commit}
use Rattle.book.specs.declared.types.Denial.{Denial}
use Rattle.book.specs.declared.types.Denial.TheVariants as denial
use Rattle.book.specs.declared.types.Remark.{Remark}
use Rattle.queue.specs.Waiting.{enter}
use Rattle.model.specs.declared.Step.{Step}
use Rattle.model.specs.declared.Call.TheVariants.{KnownCommon, AddTip}
use Rattle.model.specs.declared.Reply.{Reply}
use Rattle.model.specs.declared.Reply.TheVariants.{Done, Have, Denied}
use Rattle.model.specs.Book.{Flags, SEEN, COMMON, ADVERTISED_AND_SEEN, join, Row, no_row, reflag, Waits, Marks, Walk, row, flags_at, change, recount, drawn, stop, fresh_row, find, bump, Source, place, place_mark}
use Rattle.model.specs.Steps.{found, Lookup, held, adds, lacks, Res, ok, no, sees, sees_at, taken, noted, Noted}
use Rattle.model.specs.Skipping as steps
use Rattle.model.specs.Skipping.{queued, shared, falls, relieved, at_row, alone, new_original, new_ttl, numbered, pops, shares, offers, Add, AddUnseen, Spread, Mark, Hand, Next, Ran}
use Rattle.model.specs.Steady.{Ext, SkipHeld, common_rows, opens}
use Rattle.model.specs.View.{unpack}
use Rattle.model.specs.Parts.{ended, dones}
use Rattle.model.specs.SkipParts.{Adds, SeenIfThere, SpreadOne, SpreadAll, Visited, Carries, Pushed, Handed, Handing, offered, Took}
use Rattle.model.proofs.Basics.{find_some, length_enter, same_id_refl}
use Rattle.model.proofs.Good.{row_same, date_kept}
use Rattle.model.proofs.Looks.{Looks}
use Rattle.model.proofs.SkipFits.{plain_of, shared_ext, shared_up, held_share, held_gains, held_alone}

-- the code's small steps put together: a push, a row that enters the marking queue with COMMON, a draw from it, skip numbers, a draw
pub queued_is : (s t u v : Walk) (k : ℕ) (M : Flags) → k < length s.rows → t ≡ change s k (join M (flags_at s k)) s.queue s.count → u ≡ drawn t (place t.rows k t.queue) → v ≡ recount u (u.count + 1) → v ≡ queued M s k
queued_is s t u v k M l et eu ev =
    let J = join M (flags_at s k) in
    ev ∙ ap (λ (x : Walk). recount x (x.count + 1)) eu ∙ ap (λ (x : Walk). recount (drawn x (place x.rows k x.queue)) (x.count + 1)) et
    ∙ ap (λ (d : ℤ). change s k J (enter (record { date = d; value = k }) s.queue) (s.count + 1)) (date_kept s k J s.queue s.count l)

pub marks_gain : (s t : Walk) (k : ℕ) (q q' : Marks) → k < length s.rows → t ≡ shared s k → q' ≡ place_mark t.rows (at_row k) q → q' ≡ enter (record { date = (row s k).date; value = at_row k }) q
marks_gain s t k q q' l is e = e ∙ ap {B = Marks} (λ (x : Walk). place_mark x.rows (at_row k) q) is
    ∙ ap {B = Marks} (λ (d : ℤ). enter (record { date = d; value = at_row k }) q) (date_kept s k (join COMMON (flags_at s k)) s.queue s.count l)

pub relieved_is : (s t : Walk) (k n : ℕ) (f : Flags) → f ≡ flags_at s k → n ≡ falls f → t ≡ recount s (s.count - n) → t ≡ relieved s k
relieved_is s t k n f e en is = is ∙ ap (λ (x : ℕ). recount s (s.count - x)) (en ∙ ap falls e)

-- add to the queue
pub add_err : (src : Source) (m : Flags) (i : ObjectId) (s t : Walk) (d : Denial) → Looks src s i t (Err d) → Add src m i s (no d t)
add_err src m i s t d l = subst (λ (x : Walk). Add src m i s (no d x)) (sym l.1) (steps.Add.denies l.0)

pub add_none : (src : Source) (m : Flags) (i : ObjectId) (s t : Walk) → Looks src s i t (Ok None) → Add src m i s (ok t)
add_none src m i s t l = subst (λ (x : Walk). Add src m i s (ok x)) (sym l.1) (steps.Add.passes l.0)

pub add_some : (src : Source) (m : Flags) (i : ObjectId) (s t u : Walk) (k : ℕ) → Looks src s i t (Ok (Some k)) → u ≡ queued m t k → Add src m i s (ok u)
add_some src m i s t u k l e = subst (λ (x : Walk). Add src m i s (ok x)) (sym e) (steps.Add.enters l)

-- the row that a lookup finds has SEEN: where the id has a row with SEEN, and after a push of it
pub seen_there : (src : Source) (s : Walk) (i : ObjectId) → sees s i ≡ true → SeenIfThere src s i
seen_there src s i h k t (held _ e) = ap (sees_at s) (sym e) ∙ h
seen_there src s i h k t (adds d ps e c x y) = absurd (both_ways (sees s i) (ap (sees_at s) e) h)

find_set : (i : ObjectId) (rs : List Row) (k : ℕ) (r : Row) → r.id ≡ (get_or rs k no_row).id → find i (set rs k r) ≡ find i rs
find_set i [] k r e = refl
find_set i (x ∷ rs) zero r e = ap (λ (j : ObjectId). cond (is_same_id j i) (some 0) (bump (find i rs))) e
find_set i (x ∷ rs) (suc k) r e = ap (λ (o : mo.Option ℕ). cond (is_same_id x.id i) (some 0) (bump o)) (find_set i rs k r e)

find_push : (rs : List Row) (r : Row) → find r.id rs ≡ none → find r.id (rs ++ (r ∷ [])) ≡ some (length rs)
find_push [] r e = rw (same_id_refl r.id) refl
find_push (x ∷ rs) r e = go (is_same_id x.id r.id) (find r.id rs) refl (find_push rs r) e
  where
    go : (b : Bool) (o : mo.Option ℕ) → find r.id rs ≡ o → (find r.id rs ≡ none → find r.id (rs ++ (r ∷ [])) ≡ some (length rs)) → cond b (some 0) (bump o) ≡ none → cond b (some 0) (bump (find r.id (rs ++ (r ∷ [])))) ≡ some (suc (length rs))
    go true o f ih h = absurd (let z : ◌≡◌ {A = ℕ} 0 1 = cc in omega arith)
    go false none f ih h = ap bump (ih f)
    go false (some j) f ih h = absurd (let z : ◌≡◌ {A = ℕ} 0 1 = cc in omega arith)

look_finds : (src : Source) (s : Walk) (i : ObjectId) (k : ℕ) (t : Walk) → Lookup src s i (found k t) → find i t.rows ≡ some k
look_finds src s i k t (held _ e) = e
look_finds src s i k t (adds d ps e c x y) = find_push s.rows (fresh_row i d ps) e

pub added_there : (src : Source) (mask : ℕ) (i : ObjectId) (s t : Walk) → Adds mask → AddUnseen src (unpack mask) i s (ok t) → SeenIfThere src t i
added_there src mask i s t ad (steps.AddUnseen.skips h) = seen_there src s i h
added_there src mask i s t ad (steps.AddUnseen.pushes h (steps.Add.passes (lacks e c))) = λ k u. go k u
  where
    no_commit : (m : Meaning) (d : ℤ) (ps : List ObjectId) → m ≡ absent → m ≡ commit d ps → ⊥
    no_commit m d ps x y = let z : ◌≡◌ {A = ℕ} 0 1 = cc in omega arith

    go : (k : ℕ) (u : Walk) → Lookup src s i (found k u) → (flags_at u k).seen ≡ true
    go k u (held _ f) = absurd (let z : ◌≡◌ {A = ℕ} 0 1 = cc in omega arith)
    go k u (adds d ps f g x y) = absurd (no_commit (src i) d ps c g)
added_there src mask i s t ad (steps.AddUnseen.pushes h (steps.Add.enters {k = k} {s' = u} l)) =
    seen_there src (queued (unpack mask) u k) i (ap (sees_at (queued (unpack mask) u k)) (find_set i u.rows k (reflag (row u k) (join (unpack mask) (flags_at u k))) refl ∙ e)
    ∙ ap (λ (r : Row). r.flags.seen) (row_same u k _ [] 0 (find_some i u.rows k e).0) ∙ (plain_of mask ad).seen (flags_at u k))
  where
    e : find i u.rows ≡ some k
    e = look_finds src s i k u l

-- one parent of a drawn row of the marking queue
pub one_none : (p : ObjectId) (q : Marks) (s : Walk) → find p s.rows ≡ none → SpreadOne p q s q s
one_none p q s e ps t m = steps.Spread.lacks e m

pub one_had : (p : ObjectId) (q : Marks) (s : Walk) (k : ℕ) → find p s.rows ≡ some k → (flags_at s k).common ≡ true → SpreadOne p q s q s
one_had p q s k e c ps t m = steps.Spread.had e c m

pub one_unseen : (p : ObjectId) (q : Marks) (s u : Walk) (k : ℕ) → find p s.rows ≡ some k → (flags_at s k).common ≡ false → (flags_at s k).seen ≡ false → u ≡ shared s k → SpreadOne p q s q u
one_unseen p q s u k e c se is ps t m = steps.Spread.unseen e c se (subst (λ (x : Walk). Spread ps q x t) is m)

pub one_gains : (p : ObjectId) (q q' : Marks) (s u : Walk) (k : ℕ) → find p s.rows ≡ some k → (flags_at s k).common ≡ false → (flags_at s k).seen ≡ true → u ≡ shared s k
    → q' ≡ enter (record { date = (row s k).date; value = at_row k }) q → SpreadOne p q s q' u
one_gains p q q' s u k e c se is at ps t m = steps.Spread.gains e c se (subst (λ (x : Walk). Spread ps (place_mark s.rows (at_row k) q) x t) is (subst (λ (y : Marks). Spread ps y u t) at m))

-- what the marking queue keeps there, and the room that there is for one more
module _ (s u : Walk) (k n : ℕ) (q : Marks) (H : SkipHeld s q n) (l : k < length s.rows) (un : (flags_at s k).common ≡ false) (is : u ≡ shared s k) where
  pub unseen_held : SkipHeld u q n
  unseen_held = subst (λ (x : Walk). SkipHeld x q n) (sym is) (held_share s k q n H l un)

  up : common_rows u ≡ common_rows s + 1
  up = ap common_rows is ∙ shared_up s k l un

  pub gains_held : (n' : ℕ) (q' : Marks) → (flags_at s k).seen ≡ true → q' ≡ enter (record { date = (row s k).date; value = at_row k }) q → n' ≤ n + 1 → SkipHeld u q' n'
  gains_held n' q' se at h = subst (λ (x : Walk). SkipHeld x q' n') (sym is) (subst (λ (y : Marks). SkipHeld (shared s k) y n') (sym at) (held_gains s k n n' (row s k).date q H l un se h))

  pub gains_room : (r : ℕ) → common_rows u ≤ r → (length q < r) × (n + 1 ≤ r)
  gains_room r b = (omega (arith, b, up, H.brief), omega (arith, b, up, H.counted))

  pub gains_pays : (q' : Marks) (d : ℤ) → q' ≡ enter (record { date = d; value = at_row k }) q → length q' + common_rows s ≤ length q + common_rows u
  gains_pays q' d at = omega (arith, up, ap {B = ℕ} (λ (y : Marks). length y) at ∙ length_enter {V = Step} (record { date = d; value = at_row k }) q)

pub shared_grows : (s u : Walk) (k : ℕ) → k < length s.rows → u ≡ shared s k → Ext s u
shared_grows s u k l is = subst (λ (x : Walk). Ext s x) (sym is) (shared_ext s k l)

pub alone_held : (s u : Walk) (k n : ℕ) (q : Marks) → opens s ≤ s.count → k < length s.rows → (flags_at s k).common ≡ false → (flags_at s k).seen ≡ true → u ≡ shared s k → q ≡ alone s k → n ≤ 1 → SkipHeld u q n
alone_held s u k n q lo l un se is at h = subst (λ (x : Walk). SkipHeld x q n) (sym is) (subst (λ (y : Marks). SkipHeld (shared s k) y n) (sym at) (held_alone s k n lo l un se h))

-- one more parent is done with, and all of them
pub all_step : (ps : List ObjectId) (n : ℕ) (d : ObjectId) (q q' : Marks) (s u : Walk) → n < length ps → SpreadOne (get_or ps n d) q s q' u → (t : Walk) → Spread (drop (n + 1) ps) q' u t → Spread (drop n ps) q s t
all_step ps n d q q' s u l h t m = subst (λ (x : List ObjectId). Spread x q s t) (sym (drop_more ps n d l)) (h (drop (n + 1) ps) t m)

pub visit_row : (e : Step) (q q' : Marks) (s u v : Walk) → u ≡ relieved s e.row → SpreadAll (row s e.row).parents q u q' v → Visited e q s q' v
visit_row e q q' s u v is h date t m = steps.Spread.draw (subst (λ (x : Walk). Spread (row s e.row).parents q x t) is (h t m))

-- a mark
pub mark_err : (src : Source) (i : ObjectId) (s t : Walk) (d : Denial) → Looks src s i t (Err d) → Mark src i s (no d t)
mark_err src i s t d l = subst (λ (x : Walk). Mark src i s (no d x)) (sym l.1) (steps.Mark.barred l.0)

pub mark_none : (src : Source) (i : ObjectId) (s t : Walk) → Looks src s i t (Ok None) → Mark src i s (ok t)
mark_none src i s t l = subst (λ (x : Walk). Mark src i s (ok x)) (sym l.1) (steps.Mark.gone l.0)

pub mark_had : (src : Source) (i : ObjectId) (s t : Walk) (k : ℕ) → Looks src s i t (Ok (Some k)) → (flags_at t k).common ≡ true → Mark src i s (ok t)
mark_had src i s t k l c = steps.Mark.already l c

pub mark_all : (src : Source) (i : ObjectId) (s t u v : Walk) (q : Marks) (k : ℕ) → Looks src s i t (Ok (Some k)) → (flags_at t k).common ≡ false → u ≡ shared t k → q ≡ alone t k → Spread [] q u v → Mark src i s (ok v)
mark_all src i s t u v q k l c is at m = steps.Mark.spreads l c (subst (λ (x : Walk). Spread [] (alone t k) x v) is (subst (λ (y : Marks). Spread [] y u v) at m))

-- a drawn row is done with one parent
module _ (src : Source) (f : Flags) (o l : ℕ) (p : ObjectId) (s : Walk) where
  shares_row : (r : Row) → Carries r f o l → (b : Bool) → shares f ≡ b → shares r.flags ≡ b
  shares_row r c b e = ap shares (sym c.flags) ∙ e

  pub parent_popped : pops s p ≡ true → Pushed src f o l p s (Ok false) s
  parent_popped e = λ r c. steps.PushParent.popped e

  pub parent_stuck : (t : Walk) (d : Denial) → pops s p ≡ false → AddUnseen src SEEN p s (no d t) → Pushed src f o l p s (Err d) t
  parent_stuck t d e a = λ r c. steps.PushParent.stuck e a

  pub parent_halted : (t u : Walk) (d : Denial) → pops s p ≡ false → AddUnseen src SEEN p s (ok t) → shares f ≡ true → Mark src p t (no d u) → Pushed src f o l p s (Err d) u
  parent_halted t u d e a sh m = λ r c. steps.PushParent.halted e a (shares_row r c true sh) m

  pub parent_marked : (t u : Walk) → pops s p ≡ false → AddUnseen src SEEN p s (ok t) → shares f ≡ true → Mark src p t (ok u) → Pushed src f o l p s (Ok true) u
  parent_marked t u e a sh m = λ r c. steps.PushParent.marked e a (shares_row r c true sh) m

  pub parent_lost : (t u : Walk) → pops s p ≡ false → AddUnseen src SEEN p s (ok t) → shares f ≡ false → find p t.rows ≡ none → u ≡ stop t → Pushed src f o l p s (Err denial.MissingParent) u
  parent_lost t u e a sh n is = λ r c. subst (λ (x : Walk). steps.PushParent src r p s false (no denial.MissingParent x)) (sym is) (steps.PushParent.lost e a (shares_row r c false sh) n)

  pub parent_hands : (t u : Walk) (k : ℕ) → pops s p ≡ false → AddUnseen src SEEN p s (ok t) → shares f ≡ false → find p t.rows ≡ some k → u ≡ numbered o l t k → Pushed src f o l p s (Ok true) u
  parent_hands t u k e a sh n is = λ r c. subst (λ (x : Walk). steps.PushParent src r p s true (ok x))
      (ap (λ (y : ℕ). numbered y r.ttl t k) (sym c.original) ∙ ap (λ (y : ℕ). numbered o y t k) (sym c.ttl) ∙ sym is) (steps.PushParent.hands e a (shares_row r c false sh) n)

-- and with one more of its parents, from the first to the last
module _ (src : Source) (f : Flags) (o l : ℕ) (ps : List ObjectId) (s : Walk) where
  pub hand_start : Handing src f o l ps s false ps s
  hand_start r c b out h = h

  pub hand_step : (pushed b : Bool) (n : ℕ) (d : ObjectId) (u v : Walk) → n < length ps → Handing src f o l ps s pushed (drop n ps) u → Pushed src f o l (get_or ps n d) u (Ok b) v → Handing src f o l ps s (pushed || b) (drop (n + 1) ps) v
  hand_step pushed b n d u v lt i h = λ r c x out m. subst (λ (y : Bool). Hand src r ps s y out) (sym (or_assoc pushed b x))
      (i r c (b || x) out (subst (λ (z : List ObjectId). Hand src r z u (b || x) out) (sym (drop_more ps n d lt)) (steps.Hand.on (h r c) m)))
    where
      or_assoc : (a b c : Bool) → ((a || b) || c) ≡ (a || (b || c))
      or_assoc true b c = refl
      or_assoc false b c = refl

  pub hand_stop : (pushed : Bool) (n : ℕ) (d : ObjectId) (u v : Walk) (b : Denial) → n < length ps → Handing src f o l ps s pushed (drop n ps) u → Pushed src f o l (get_or ps n d) u (Err b) v → Handed src f o l ps s (Err b) v
  hand_stop pushed n d u v b lt i h = λ r c. (pushed || false, i r c false (no b v) (subst (λ (z : List ObjectId). Hand src r z u false (no b v)) (sym (drop_more ps n d lt)) (steps.Hand.stuck (h r c))))

  pub hand_end : (pushed : Bool) (rest : List ObjectId) (u : Walk) → rest ≡ [] → Handing src f o l ps s pushed rest u → Handed src f o l ps s (Ok pushed) u
  hand_end pushed rest u e i = λ r c. subst (λ (y : Bool). Hand src r ps s y (ok u)) (or_none pushed) (i r c false (ok u) (subst (λ (z : List ObjectId). Hand src r z u false (ok u)) (sym e) steps.Hand.over))
    where
      or_none : (a : Bool) → (a || false) ≡ a
      or_none true = refl
      or_none false = refl

-- the turns of a next
module _ (src : Source) (s t : Walk) (k : ℕ) (f : Flags) (o l : ℕ) (T : Took s k f o l t) where
  same_hand : (b : Bool) (u : Res) → Hand src (row s k) (row t k).parents t b u → (row t k).parents ≡ (row s k).parents
      → Hand src (row s T.entry.value) (row s T.entry.value).parents (taken s T.entry.value T.rest) b u
  same_hand b u h e =
      subst (λ (j : ℕ). Hand src (row s j) (row s j).parents (taken s j T.rest) b u) (sym T.value)
      (subst (λ (x : Walk). Hand src (row s k) (row s k).parents x b u) T.is (subst (λ (ps : List ObjectId). Hand src (row s k) ps t b u) e h))

  same_offer : (b c : Bool) → offered f l b ≡ c → offers (row s T.entry.value) b ≡ c
  same_offer b c h = subst (λ (j : ℕ). offers (row s j) b ≡ c) (sym T.value) (ap (λ (g : Flags). offered g (row s k).ttl b) (sym T.carries.flags) ∙ ap (λ (x : ℕ). offered f x b) (sym T.carries.ttl) ∙ h)

  pub next_stops : (v : Walk) (d : Denial) → (row t k).parents ≡ (row s k).parents → Handed src f o l (row t k).parents t (Err d) v → Next src s (Denied d) v
  next_stops v d e h = let x = h (row s k) T.carries in steps.Next.stops T.waited T.counted (same_hand x.0 (no d v) x.1 e)

  pub next_answers : (v : Walk) (b : Bool) → (row t k).parents ≡ (row s k).parents → Handed src f o l (row t k).parents t (Ok b) v → offered f l b ≡ true → Next src s (Have k) v
  next_answers v b e h of = subst (λ (j : ℕ). Next src s (Have j) v) T.value (steps.Next.answers T.waited T.counted (same_hand b (ok v) (h (row s k) T.carries) e) (same_offer b true of))

  pub next_goes_on : (v : Walk) (b : Bool) → (row t k).parents ≡ (row s k).parents → Handed src f o l (row t k).parents t (Ok b) v → offered f l b ≡ false → (a : Reply) (u : Walk) → Next src v a u → Next src s a u
  next_goes_on v b e h of a u n = steps.Next.goes_on T.waited T.counted (same_hand b (ok v) (h (row s k) T.carries) e) (same_offer b false of) n

  pub took_less : length t.queue + 1 ≡ length s.queue
  took_less = ap (λ (x : Walk). length x.queue + 1) T.is ∙ (let y = ap {B = ℕ} (λ (q : Waits). length q) T.waited in omega (arith, y))

-- calls
pub tip_ran : (src : Source) (i : ObjectId) (s t : Walk) (r : Result (Unit {0}) Denial) → AddUnseen src SEEN i s (ended r t) → Ran src s (AddTip i) (dones r) t
tip_ran src i s t (Ok x) a = steps.Ran.tip_ok a
tip_ran src i s t (Err d) a = steps.Ran.tip_no a

pub known_ran : (src : Source) (i : ObjectId) (s t : Walk) (r : Result (Unit {0}) Denial) → AddUnseen src ADVERTISED_AND_SEEN i s (ended r t) → Ran src s (KnownCommon i) (dones r) t
known_ran src i s t (Ok x) a = steps.Ran.known_ok a
known_ran src i s t (Err d) a = steps.Ran.known_no a

pub note_err : (src : Source) (b : Remark) (i : ObjectId) (s t : Walk) (d : Denial) → Looks src s i t (Err d) → Noted src s b i (Denied d) t
note_err src b i s t d l = subst (λ (x : Walk). Noted src s b i (Denied d) x) (sym l.1) (Noted.barred l.0)

pub note_none : (src : Source) (b : Remark) (i : ObjectId) (s t : Walk) → Looks src s i t (Ok None) → Noted src s b i Done t
note_none src b i s t l = subst (λ (x : Walk). Noted src s b i Done x) (sym l.1) (Noted.gone l.0)

pub note_some : (src : Source) (b : Remark) (i : ObjectId) (s t u : Walk) (k : ℕ) → Looks src s i t (Ok (Some k)) → u ≡ noted b t k → Noted src s b i Done u
note_some src b i s t u k l e = subst (λ (x : Walk). Noted src s b i Done x) (sym e) (Noted.set_at l)
