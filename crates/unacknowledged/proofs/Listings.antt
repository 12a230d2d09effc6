-- What is on a list, and what is not.
use Rattle.std.proofs.Common.{◌≡◌, ℕ, Bool, true, false, cond, ◌⊎◌, List, [], ◌∷◌, map, get_or, sym, refl, ap, subst, inl, inr, ⊎_elim}
use Rattle.std.proofs.lemmas.Bool.{false≢true, and_parts, and_from, or_cases, or_left, or_right}
use Rattle.source.specs.declared.ObjectId.{ObjectId}
use Rattle.source.specs.Ids.{is_same_id}
use Rattle.model.specs.Book.{Row, no_row}
use Rattle.model.specs.Past.{In, Accepted, AckOf, HaveOf, Acked, Answered}
use Rattle.model.specs.declared.Call.{Call}
use Rattle.model.specs.declared.Call.TheVariants.{KnownCommon, AddTip, NextHave, InCommonWithRemote, Note}
use Rattle.model.specs.declared.Event.{Event}
use Rattle.model.specs.declared.Reply.{Reply}
use Rattle.model.specs.declared.Reply.TheVariants.{Done, Have, NoneLeft, Told, Denied}
use Rattle.book.proofs.Chains.{same_is}
use Rattle.model.proofs.Basics.{same_id_refl}
use Rattle.unacknowledged.specs.declared.Commit.{Commit}
use Rattle.unacknowledged.specs.Listing.{is_accepted, acks, names, named, commit_of, offered, listed}
use Rattle.unacknowledged.specs.Reports.{Distinct}

abbrev ids_of : List Commit → List ObjectId
ids_of cs = map (λ (c : Commit). c.id) cs

-- the test of an accepted acknowledgement is right
accepted_is : (a : Reply) → is_accepted a ≡ true → Accepted a
accepted_is Done e = tt
accepted_is (Have k) e = tt
accepted_is NoneLeft e = tt
accepted_is (Told b) e = tt
accepted_is (Denied d) e = false≢true e

is_of : (a : Reply) → Accepted a → is_accepted a ≡ true
is_of Done e = refl
is_of (Have k) e = refl
is_of NoneLeft e = refl
is_of (Told b) e = refl
is_of (Denied d) e = absurd e

ack_is : (c : Call) (i : ObjectId) → acks c i ≡ true → AckOf c i
ack_is (KnownCommon j) i e = false≢true e
ack_is (AddTip j) i e = false≢true e
ack_is NextHave i e = false≢true e
ack_is (InCommonWithRemote j) i e = same_is j i e
ack_is (Note j r) i e = false≢true e

acks_of : (c : Call) (i : ObjectId) → AckOf c i → acks c i ≡ true
acks_of (KnownCommon j) i e = absurd e
acks_of (AddTip j) i e = absurd e
acks_of NextHave i e = absurd e
acks_of (InCommonWithRemote j) i e = subst (λ (x : ObjectId). is_same_id j x ≡ true) e (same_id_refl j)
acks_of (Note j r) i e = absurd e

pub named_acked : (es : List Event) (i : ObjectId) → named es i ≡ true → Acked es i
named_acked [] i h = absurd (false≢true h)
named_acked (e ∷ es) i h = ⊎_elim
    (λ x. let y = and_parts (is_accepted e.gave) (acks e.asked i) x in inl (ack_is e.asked i y.1, accepted_is e.gave y.0))
    (λ x. inr (named_acked es i x)) (or_cases (names i e) (named es i) h)

pub acked_named : (es : List Event) (i : ObjectId) → Acked es i → named es i ≡ true
acked_named [] i w = absurd w
acked_named (e ∷ es) i (inl w) = or_left (names i e) (named es i) (and_from (is_accepted e.gave) (acks e.asked i) (is_of e.gave w.1) (acks_of e.asked i w.0))
acked_named (e ∷ es) i (inr w) = or_right (names i e) (named es i) (acked_named es i w)

module _ (all : List Event) (rows : List Row) where
  abbrev id_at : ℕ → ObjectId
  id_at k = (get_or rows k no_row).id

  has_more : (a : Reply) (more : List Commit) (i : ObjectId) → In i (ids_of more) → In i (ids_of (offered all rows a more))
  has_more Done more i x = x
  has_more (Have k) more i x = go (named all (id_at k))
    where
      go : (b : Bool) → In i (ids_of (cond b more (commit_of (get_or rows k no_row) ∷ more)))
      go true = x
      go false = inr x
  has_more NoneLeft more i x = x
  has_more (Told b) more i x = x
  has_more (Denied d) more i x = x

  has_here : (a : Reply) (more : List Commit) (k : ℕ) → HaveOf a k → named all (id_at k) ≡ false → In (id_at k) (ids_of (offered all rows a more))
  has_here Done more k w n = absurd w
  has_here (Have j) more k w n = subst (λ (m : ℕ). In (id_at m) (ids_of (offered all rows (Have j) more))) w (go (named all (id_at j)) (subst (λ (m : ℕ). named all (id_at m) ≡ false) (sym w) n))
    where
      go : (b : Bool) → b ≡ false → In (id_at j) (ids_of (cond b more (commit_of (get_or rows j no_row) ∷ more)))
      go true e = absurd (false≢true (sym e))
      go false e = inl refl
  has_here NoneLeft more k w n = absurd w
  has_here (Told b) more k w n = absurd w
  has_here (Denied d) more k w n = absurd w

  -- an answered row that no acknowledgement names is on the list
  pub listed_has : (es : List Event) (k : ℕ) → Answered es k → named all (id_at k) ≡ false → In (id_at k) (ids_of (listed all rows es))
  listed_has [] k w n = absurd w
  listed_has (e ∷ es) k (inl w) n = has_here e.gave (listed all rows es) k w n
  listed_has (e ∷ es) k (inr w) n = has_more e.gave (listed all rows es) (id_at k) (listed_has es k w n)

  -- where an id on the list comes from
  abbrev From : (ℕ → Type 0) → ObjectId → Type 0
  From P i = (k : ℕ) × P k × (id_at k ≡ i) × (named all i ≡ false)

  from : (a : Reply) (more : List Commit) (i : ObjectId) → In i (ids_of (offered all rows a more)) → From (HaveOf a) i ⊎ In i (ids_of more)
  from Done more i x = inr x
  from (Have k) more i x = go (named all (id_at k)) refl x
    where
      go : (b : Bool) → named all (id_at k) ≡ b → In i (ids_of (cond b more (commit_of (get_or rows k no_row) ∷ more))) → From (HaveOf (Have k)) i ⊎ In i (ids_of more)
      go true e y = inr y
      go false e (inl y) = inl (k, refl, sym y, subst (λ (j : ObjectId). named all j ≡ false) (sym y) e)
      go false e (inr y) = inr y
  from NoneLeft more i x = inr x
  from (Told b) more i x = inr x
  from (Denied d) more i x = inr x

  pub listed_from : (es : List Event) (i : ObjectId) → In i (ids_of (listed all rows es)) → From (Answered es) i
  listed_from [] i x = absurd x
  listed_from (e ∷ es) i x = ⊎_elim (λ y. (y.0, inl y.1, y.2, y.3)) (λ y. let z = listed_from es i y in (z.0, inr z.1, z.2, z.3)) (from e.gave (listed all rows es) i x)

  -- no row is answered twice
  abbrev pub Apart : List Event → Type 0
  Apart [] = Unit {0}
  Apart (e ∷ es) = ((k : ℕ) → HaveOf e.gave k → Answered es k → ⊥) × Apart es

  apart_here : (a : Reply) (more : List Commit) → ((k : ℕ) → HaveOf a k → In (id_at k) (ids_of more) → ⊥) → Distinct (ids_of more) → Distinct (ids_of (offered all rows a more))
  apart_here Done more h d = d
  apart_here (Have k) more h d = go (named all (id_at k))
    where
      go : (b : Bool) → Distinct (ids_of (cond b more (commit_of (get_or rows k no_row) ∷ more)))
      go true = d
      go false = (h k refl, d)
  apart_here NoneLeft more h d = d
  apart_here (Told b) more h d = d
  apart_here (Denied b) more h d = d

  -- where rows have ids of their own, the list has no id twice
  pub distinct : (es : List Event) → Apart es → ((j k : ℕ) → Answered es j → Answered es k → id_at j ≡ id_at k → j ≡ k) → Distinct (ids_of (listed all rows es))
  distinct [] ap u = tt
  distinct (e ∷ es) ap u = apart_here e.gave (listed all rows es)
      (λ k w x. let z = listed_from es (id_at k) x in ap.0 k w (subst (Answered es) (u z.0 k (inr z.1) (inl w) z.2) z.1))
      (distinct es ap.1 (λ j k x y. u j k (inr x) (inr y)))
