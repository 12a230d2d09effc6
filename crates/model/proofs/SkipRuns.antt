-- Whole runs of the skipping walk: marking, adding, handing on, the draws of next.
use Rattle.std.proofs.Common.{◌≡◌, ℕ, Bool, true, false, not, ◌||◌, eqb, List, [], sym, refl, ap, ◌∙◌, subst}
use Rattle.std.proofs.lemmas.Bool.{both_ways, false≢true, and_parts}
use Rattle.source.specs.declared.ObjectId.{ObjectId}
use Rattle.model.specs.declared.Reply.{Reply}
use Rattle.model.specs.declared.Reply.TheVariants.{Done, Have, NoneLeft, Told, Denied}
use Rattle.model.specs.Book.{Flags, SEEN, ADVERTISED_AND_SEEN, join, Row, Marks, Walk, row, flags_at, stop, Source}
use Rattle.model.specs.Steps
use Rattle.model.specs.Steps.{found, Lookup, Res, ok, no, sees, taken}
use Rattle.model.specs.Skipping
use Rattle.model.specs.Skipping.{queued, shared, relieved, numbered, offers, Spread, Mark, Add, AddUnseen, PushParent, Hand, Next}
use Rattle.model.specs.Past.{Has}
use Rattle.model.specs.Steady.{World, Good, Ext, lax, Low}
use Rattle.model.proofs.Basics.{find_some, find_none}
use Rattle.model.proofs.Good.{ext_refl, ext_trans, seen_in, row_same}
use Rattle.model.proofs.Ops.{lookup_finds, lookup_nothing}
use Rattle.model.proofs.Runs.{walk_of, IsOk, HeldSeen, HeldCommon, held_common_ext, absent_has, sees_held, stop_ext, drawn_ext, unseen_row}
use Rattle.model.proofs.Low.{add_low, stop_low, enter_low, gain_low, share_low, draw_low, relieved_ext, number_low, take_low}

-- a lookup of an id that has a row with SEEN gives that row
pub look_seen : (W : World) (s : Walk) (i : ObjectId) (k : ℕ) (t : Walk) → Good W s → HeldSeen s i → {src : Source} → Lookup src s i (found k t) → (flags_at t k).seen ≡ true
look_seen W s i k t G h (Steps.Lookup.held _ e) =
    let f = find_some i s.rows k e in
    subst (λ (j : ℕ). (flags_at s j).seen ≡ true) (G.uniq h.0 k (seen_in s h.0 h.2) f.0 (h.1 ∙ sym f.1)) h.2
look_seen W s i k t G h (Steps.Lookup.adds d ps e c x y) = absurd (find_none i s.rows h.0 e (seen_in s h.0 h.2) h.1)

-- a mask that adds SEEN, and beside it neither POPPED nor COMMON
pub record Plain (m : Flags) : Type 0 where
  pub seen : (f : Flags) → (join m f).seen ≡ true
  pub popped : (f : Flags) → (join m f).popped ≡ f.popped
  pub common : (f : Flags) → (join m f).common ≡ f.common

pub plain_seen : Plain SEEN
plain_seen = record { seen = λ f. refl; popped = λ f. refl; common = λ f. refl }

pub plain_advertised : Plain ADVERTISED_AND_SEEN
plain_advertised = record { seen = λ f. refl; popped = λ f. refl; common = λ f. refl }

-- what an answer says
abbrev pub Says : Walk → Reply → Walk → Type 0
Says s Done t = Unit {0}
Says s (Have k) t = ((flags_at s k).popped ≡ true → ⊥) × ((flags_at s k).common ≡ true → ⊥) × ((flags_at t k).popped ≡ true)
Says s NoneLeft t = Unit {0}
Says s (Told b) t = Unit {0}
Says s (Denied d) t = Unit {0}

says_before : (r s : Walk) (a : Reply) (t : Walk) → Ext r s → Says s a t → Says r a t
says_before r s Done t x h = h
says_before r s (Have k) t x h = ((λ p. h.0 (x.popped_stays k p)), (λ c. h.1 (x.common_stays k c)), h.2)
says_before r s NoneLeft t x h = h
says_before r s (Told b) t x h = h
says_before r s (Denied d) t x h = h

offered : (r : Row) (b : Bool) → offers r b ≡ true → r.flags.common ≡ true → ⊥
offered r b e c = no_way r.flags.common (and_parts (not r.flags.common) (eqb r.ttl 0 || not b) e).0 c
  where
    no_way : (a : Bool) → not a ≡ true → a ≡ true → ⊥
    no_way true x y = false≢true x
    no_way false x y = false≢true y

module _ (src : Source) (P : ℕ → Type 0) where
  abbrev W : World
  W = lax src P (Unit {0})

  abbrev pub Kept : Walk → Walk → Type 0
  Kept s t = Low W [] t × Ext s t

  after : (s t u : Walk) → Ext s t → Kept t u → Kept s u
  after s t u x m = (m.0, ext_trans s t u x m.1)

  pub look_low : (q : Marks) (s : Walk) (i : ObjectId) (k : ℕ) (t : Walk) → Low W q s → Lookup src s i (found k t) → Low W q t
  look_low q s i k t H (Steps.Lookup.held _ e) = H
  look_low q s i k t H (Steps.Lookup.adds d ps e c l m) = add_low src P (Unit {0}) q s i d ps H e (λ x. c) l

  spread_low : {ps : List ObjectId} {q : Marks} {s t : Walk} → Spread ps q s t → Low W q s → Kept s t
  spread_low (Skipping.Spread.finished {s = s}) H = (H, ext_refl s)
  spread_low (Skipping.Spread.draw {e = e} {q = q} {s = s} {t = t} m) H =
      after s (relieved s e.value.row) t (relieved_ext s e.value.row) (spread_low m (draw_low src P (Unit {0}) e q s H))
  spread_low (Skipping.Spread.lacks e m) H = spread_low m H
  spread_low (Skipping.Spread.had e c m) H = spread_low m H
  spread_low (Skipping.Spread.unseen {p = p} {k = k} {q = q} {s = s} {t = t} e c u m) H =
      let a = share_low src P (Unit {0}) q s k H (find_some p s.rows k e).0 c u in after s (shared s k) t a.1 (spread_low m a.0)
  spread_low (Skipping.Spread.gains {k = k} {q = q} {s = s} {t = t} e c se m) H =
      let a = gain_low src P (Unit {0}) (row s k).date q s k H c se in after s (shared s k) t a.1 (spread_low m a.0)

  pub record Marked (i : ObjectId) (s : Walk) (out : Res) : Type 0 where
    pub now : Low W [] (walk_of out)
    pub ext : Ext s (walk_of out)
    pub common_now : IsOk out → Has src i → HeldCommon (walk_of out) i

  -- an id that is marked has a row with SEEN if the source has it
  pub mark_low : (i : ObjectId) (s : Walk) (out : Res) → Low W [] s → (Has src i → HeldSeen s i) → Mark src i s out → Marked i s out
  mark_low i s out H sn (Skipping.Mark.gone l) = record { now = H; ext = ext_refl s; common_now = λ x h. absurd (absent_has src i (lookup_nothing src s i l) h) }
  mark_low i s out H sn (Skipping.Mark.barred l) = record { now = stop_low src P (Unit {0}) [] s H; ext = stop_ext s; common_now = λ x h. absurd x }
  mark_low i s out H sn (Skipping.Mark.already {k = k} {s' = t} l c) =
      let f = lookup_finds W tt s i k t H.good l in
      record { now = look_low [] s i k t H l; ext = f.ext; common_now = λ x h. (k, f.the_id, c) }
  mark_low i s out H sn (Skipping.Mark.spreads {k = k} {s' = t} {t = u} l c m) =
      let f = lookup_finds W tt s i k t H.good l in
      let a = gain_low src P (Unit {0}) (row t k).date [] t k (look_low [] s i k t H l) c (look_seen W s i k t H.good (sn f.has) l) in
      let r = spread_low m a.0 in
      record {
        now = r.0;
        ext = ext_trans s t u f.ext (ext_trans t (shared t k) u a.1 r.1);
        common_now = λ x h. held_common_ext (shared t k) u i r.1 (k, a.1.same_id k f.range ∙ f.the_id, a.2);
      }

  pub record Added (i : ObjectId) (s : Walk) (out : Res) : Type 0 where
    pub now : Low W [] (walk_of out)
    pub ext : Ext s (walk_of out)
    pub seen_now : IsOk out → Has src i → HeldSeen (walk_of out) i

  plain_low : (m : Flags) (i : ObjectId) (s : Walk) (out : Res) → Plain m → Low W [] s → sees s i ≡ false → Add src m i s out → Added i s out
  plain_low m i s out pm H u (Skipping.Add.enters {k = k} {s' = t} l) =
      let f = lookup_finds W tt s i k t H.good l in
      let g = flags_at t k in
      let a = enter_low src P (Unit {0}) t k (join m g) (look_low [] s i k t H l) f.range (unseen_row src s i k t u l) (pm.seen g) (pm.popped g) (λ h. pm.common g ∙ h) in
      record {
        now = a.0;
        ext = ext_trans s t (queued m t k) f.ext a.1;
        seen_now = λ x h. (k, a.1.same_id k f.range ∙ f.the_id, ap (λ (r : Row). r.flags.seen) (row_same t k _ [] 0 f.range) ∙ pm.seen g);
      }
  plain_low m i s out pm H u (Skipping.Add.passes l) = record { now = H; ext = ext_refl s; seen_now = λ x h. absurd (absent_has src i (lookup_nothing src s i l) h) }
  plain_low m i s out pm H u (Skipping.Add.denies l) = record { now = stop_low src P (Unit {0}) [] s H; ext = stop_ext s; seen_now = λ x h. absurd x }

  pub add_unseen_low : (m : Flags) (i : ObjectId) (s : Walk) (out : Res) → Plain m → Low W [] s → AddUnseen src m i s out → Added i s out
  add_unseen_low m i s out pm H (Skipping.AddUnseen.skips h) = record { now = H; ext = ext_refl s; seen_now = λ x y. sees_held s i h }
  add_unseen_low m i s out pm H (Skipping.AddUnseen.pushes h a) = plain_low m i s out pm H h a

  push_low : (r : Row) (p : ObjectId) (s : Walk) (b : Bool) (out : Res) → Low W [] s → PushParent src r p s b out → Kept s (walk_of out)
  push_low r p s b out H (Skipping.PushParent.popped e) = (H, ext_refl s)
  push_low r p s b out H (Skipping.PushParent.stuck {d = d} {s' = t} e a) = let x = add_unseen_low SEEN p s (no d t) plain_seen H a in (x.now, x.ext)
  push_low r p s b out H (Skipping.PushParent.halted {d = d} {s' = t} {s'' = u} e a sh m) =
      let x = add_unseen_low SEEN p s (ok t) plain_seen H a in
      let y = mark_low p t (no d u) x.now (x.seen_now tt) m in (y.now, ext_trans s t u x.ext y.ext)
  push_low r p s b out H (Skipping.PushParent.marked {s' = t} {s'' = u} e a sh m) =
      let x = add_unseen_low SEEN p s (ok t) plain_seen H a in
      let y = mark_low p t (ok u) x.now (x.seen_now tt) m in (y.now, ext_trans s t u x.ext y.ext)
  push_low r p s b out H (Skipping.PushParent.lost {s' = t} e a sh f) =
      let x = add_unseen_low SEEN p s (ok t) plain_seen H a in (stop_low src P (Unit {0}) [] t x.now, ext_trans s t (stop t) x.ext (stop_ext t))
  push_low r p s b out H (Skipping.PushParent.hands {k = k} {s' = t} e a sh f) =
      let x = add_unseen_low SEEN p s (ok t) plain_seen H a in
      let y = number_low src P (Unit {0}) t k r.original r.ttl x.now (find_some p t.rows k f).0 in
      (y.0, ext_trans s t (numbered r.original r.ttl t k) x.ext y.1)

  hand_low : (r : Row) {ps : List ObjectId} {s : Walk} {b : Bool} {out : Res} → Hand src r ps s b out → Low W [] s → Kept s (walk_of out)
  hand_low r (Skipping.Hand.over {s = s}) H = (H, ext_refl s)
  hand_low r (Skipping.Hand.stuck {p = p} {s = s} {b = b} {d = d} {s' = t} x) H = push_low r p s b (no d t) H x
  hand_low r (Skipping.Hand.on {p = p} {s = s} {b = b} {s' = t} {out = out} x m) H =
      let a = push_low r p s b (ok t) H x in after s t (walk_of out) a.1 (hand_low r m a.0)

  pub record Nexted (s : Walk) (a : Reply) (t : Walk) : Type 0 where
    pub now : Low W [] t
    pub ext : Ext s t
    pub says : Says s a t

  pub next_low : {s : Walk} {a : Reply} {t : Walk} → Next src s a t → ((k : ℕ) → P k) → Low W [] s → Nexted s a t
  next_low (Skipping.Next.empty {s = s} e) pp H = record { now = H; ext = ext_refl s; says = tt }
  next_low (Skipping.Next.spent {s = s} {e = x} {q = q} e z) pp H =
      record { now = (take_low src P (Unit {0}) s x q H e).left z; ext = drawn_ext s x q e; says = tt }
  next_low (Skipping.Next.answers {s = s} {e = x} {q = q} {b = b} {s' = t} e z m o) pp H =
      let k = x.value in
      let d = take_low src P (Unit {0}) s x q H e in
      let r = hand_low (row s k) m (d.now (pp k)) in
      record {
        now = r.0;
        ext = ext_trans s (taken s k q) t d.ext r.1;
        says = ((λ h. both_ways (flags_at s k).popped d.unpopped h), (λ h. offered (row s k) b o h), r.1.popped_stays k d.popped_now);
      }
  next_low (Skipping.Next.goes_on {s = s} {e = x} {q = q} {s' = t} {a = a} {s'' = u} e z m o n) pp H =
      let k = x.value in
      let d = take_low src P (Unit {0}) s x q H e in
      let r = hand_low (row s k) m (d.now (pp k)) in
      let y = ext_trans s (taken s k q) t d.ext r.1 in
      let f = next_low n pp r.0 in
      record { now = f.now; ext = ext_trans s t u y f.ext; says = says_before s t a u y f.says }
  next_low (Skipping.Next.stops {s = s} {e = x} {q = q} {s' = t} e z m) pp H =
      let k = x.value in
      let d = take_low src P (Unit {0}) s x q H e in
      let r = hand_low (row s k) m (d.now (pp k)) in
      record { now = r.0; ext = ext_trans s (taken s k q) t d.ext r.1; says = tt }
