-- What a negotiator keeps, and the laws that follow for any that keeps it.
use Rattle.std.proofs.Common.{◌≡◌, ℕ, ◌<◌, Bool, true, false, List, [], ◌∷◌, length, sym, refl, ◌∙◌, subst, inl, inr, ⊎_elim, arith}
use Rattle.std.proofs.lemmas.Bool.{both_ways}
use Rattle.source.specs.declared.ObjectId.{ObjectId}
use Rattle.book.specs.declared.types.Remark.{Remark}
use Rattle.model.specs.declared.Event.{Event}
use Rattle.model.specs.declared.Call.{Call}
use Rattle.model.specs.declared.Reply.{Reply}
use Rattle.model.specs.Book.{Walk, made, row, flags_at, Source}
use Rattle.model.specs.Steps.{noted, Noted}
use Rattle.model.specs.Past
use Rattle.model.specs.Past.{Doing, Called, PastOf, Accepted, AckOf, HaveOf, is_next, Acked, Answered, Has}
use Rattle.model.specs.Laws.{Once, Pops}
use Rattle.model.specs.Steady.{World, Good, Ext, lax}
use Rattle.model.proofs.Good.{ext_refl, ext_trans, seen_in, common_in}
use Rattle.model.proofs.Ops.{lookup_finds}
use Rattle.model.proofs.Runs.{HeldCommon, stop_good, stop_ext}
use Rattle.model.proofs.Ops.{noted_good}

-- a call's step, by the invariant Inv; `Off` are the ids that are not to be answered any more
pub record Stepped (Inv : Walk → Type 0) (Off : Walk → ObjectId → Type 0) (s : Walk) (c : Call) (a : Reply) (t : Walk) : Type 0 where
  pub inv : Inv t
  pub ext : Ext s t
  pub fresh : (k : ℕ) → HaveOf a k → ((flags_at s k).popped ≡ true → ⊥) × (Off s (row t k).id → ⊥) × ((flags_at t k).popped ≡ true)
  pub acks : (i : ObjectId) → AckOf c i → Accepted a → Off t i

-- the invariant says which rows may be POPPED
pub record Keeps (src : Source) (ran : Doing) : Type 1 where
  pub Inv : (ℕ → Type 0) → Walk → Type 0
  pub Off : Walk → ObjectId → Type 0
  pub begun : (P : ℕ → Type 0) (n l : ℕ) → Inv P (made n l)
  pub good : (P : ℕ → Type 0) (s : Walk) → Inv P s → Good (lax src P (Unit {0})) s
  pub tight : (P : ℕ → Type 0) (s : Walk) → Inv P s → Inv (λ k. (flags_at s k).popped ≡ true) s
  pub off_stays : (s t : Walk) (i : ObjectId) → Ext s t → Off s i → Off t i
  pub step : (P : ℕ → Type 0) (s : Walk) (c : Call) (a : Reply) (t : Walk) → Inv P s → (is_next c ≡ true → (k : ℕ) → P k) → ran s c a t → Stepped (Inv P) Off s c a t

-- what was said of the rows stays true of them as they grow
once_ext : (s t : Walk) (h : List Event) → Ext s t → ((k : ℕ) → Answered h k → k < length s.rows) → Once s h → Once t h
once_ext s t [] x l o = tt
once_ext s t (e ∷ h) x l o =
    ((λ k w. let y = o.0 k w in (y.0, λ a. y.1 (subst (Acked h) (x.same_id k (l k (inl w))) a))), once_ext s t h x (λ k a. l k (inr a)) o.1)

module _ (src : Source) (ran : Doing) (K : Keeps src ran) where
  abbrev all : ℕ → Type 0
  all k = Unit {0}

  past_inv : {h : List Event} {s : Walk} → PastOf ran h s → K.Inv all s
  past_inv (Past.PastOf.begun n l) = K.begun all n l
  past_inv (Past.PastOf.denied c p st) = past_inv p
  past_inv (Past.PastOf.called {s = s} {c = c} {a = a} {s' = t} p ns r) = (K.step all s c a t (past_inv p) (λ x k. tt) r).inv

  past_pops : {h : List Event} {s : Walk} → PastOf ran h s → (k : ℕ) → Answered h k → (flags_at s k).popped ≡ true
  past_pops (Past.PastOf.begun n l) k w = absurd w
  past_pops (Past.PastOf.denied c p st) k w = ⊎_elim (λ x. absurd x) (past_pops p k) w
  past_pops (Past.PastOf.called {s = s} {c = c} {a = a} {s' = t} p ns r) k w =
      let x = K.step all s c a t (past_inv p) (λ x k. tt) r in
      ⊎_elim (λ y. (x.fresh k y).2) (λ y. x.ext.popped_stays k (past_pops p k y)) w

  past_offs : {h : List Event} {s : Walk} → PastOf ran h s → (i : ObjectId) → Acked h i → K.Off s i
  past_offs (Past.PastOf.begun n l) i w = absurd w
  past_offs (Past.PastOf.denied c p st) i w = ⊎_elim (λ x. absurd x.1) (past_offs p i) w
  past_offs (Past.PastOf.called {s = s} {c = c} {a = a} {s' = t} p ns r) i w =
      let x = K.step all s c a t (past_inv p) (λ x k. tt) r in
      ⊎_elim (λ y. x.acks i y.0 y.1) (λ y. K.off_stays s t i x.ext (past_offs p i y)) w

  pub once_of : {h : List Event} {s : Walk} → PastOf ran h s → Once s h
  once_of (Past.PastOf.begun n l) = tt
  once_of (Past.PastOf.denied c p st) = ((λ k x. absurd x), once_of p)
  once_of (Past.PastOf.called {h = h} {s = s} {c = c} {a = a} {s' = t} p ns r) =
      let x = K.step all s c a t (past_inv p) (λ x k. tt) r in (
        (λ k w. let f = x.fresh k w in ((λ y. f.0 (past_pops p k y)), (λ y. f.1 (past_offs p (row t k).id y)))),
        once_ext s t h x.ext (λ k w. seen_in s k (((K.good all s (past_inv p)).fine k).pop_seen (past_pops p k w))) (once_of p),
      )

  pub pops_of : (h : List Event) (s : Walk) (c : Call) (a : Reply) (t : Walk) → PastOf ran h s → Called ran s c a t → Pops s c a t
  pops_of h s c a t p (inl (st, ea, et)) =
      subst (λ (u : Walk). Pops s c a u) (sym et) (subst (λ (b : Reply). Pops s c b s) (sym ea) (record { stays = λ k x. x; by_next = λ n k x. x; added = λ k x. absurd x }))
  pops_of h s c a t p (inr (ns, r)) =
      let x = K.step all s c a t (past_inv p) (λ x k. tt) r in
      let P : ℕ → Type 0 = λ k. (flags_at s k).popped ≡ true in
      record {
        stays = x.ext.popped_stays;
        by_next = λ n k. (K.good P t (K.step P s c a t (K.tight all s (past_inv p)) (λ y. absurd (both_ways (is_next c) n y)) r).inv).pop k;
        added = λ k w. (flip (flags_at s k).popped (x.fresh k w).0, (x.fresh k w).2);
      }
    where
      flip : (b : Bool) → (b ≡ true → ⊥) → b ≡ false
      flip true h = absurd (h refl)
      flip false h = refl

-- a row that had no COMMON is none that an acknowledgement put off
pub uncommon_off : (src : Source) (P : ℕ → Type 0) (s t : Walk) (k : ℕ) → Ext s t → Good (lax src P (Unit {0})) t → ((flags_at s k).common ≡ true → ⊥) → (flags_at t k).popped ≡ true
    → (Has src (row t k).id → HeldCommon s (row t k).id) → ⊥
uncommon_off src P s t k x G un po h =
    let l : k < length t.rows = seen_in t k ((G.fine k).pop_seen po) in
    let w = h ((row t k).date, (row t k).parents, G.from tt k l) in
    let j = w.0 in
    let lj : j < length s.rows = common_in s j w.2 in
    let ej : j ≡ k = G.uniq j k (omega (arith, lj, x.longer)) l (x.same_id j lj ∙ w.1) in
    un (subst (λ (m : ℕ). (flags_at s m).common ≡ true) ej w.2)

-- a note
pub note_step : (W : World) (R : W.Real) (s : Walk) (b : Remark) (i : ObjectId) (a : Reply) (t : Walk) → Good W s → Noted W.src s b i a t → Good W t × Ext s t × ((k : ℕ) → HaveOf a k → ⊥)
note_step W R s b i a t G (Noted.barred l) = (stop_good W s G, stop_ext s, (λ k x. x))
note_step W R s b i a t G (Noted.gone l) = (G, ext_refl s, (λ k x. x))
note_step W R s b i a t G (Noted.set_at {k = k} {s' = u} l) =
    let f = lookup_finds W R s i k u G l in
    let r = noted_good W b u k f.good f.range in
    (r.0, ext_trans s u (noted b u k) f.ext r.1, (λ k x. x))
