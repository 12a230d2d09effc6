-- Lists of rows and of row numbers: find, occ, place.
use Rattle.std.proofs.Common.{◌≡◌, ℕ, zero, suc, ◌<◌, Bool, true, false, cond, ◌≢◌, ◌⊎◌, List, [], ◌∷◌, length, get_or, sym, refl, ap, ◌∙◌, subst, inl, inr, ⊎_elim, le_of_suc-le-suc, not-suc-le-zero, arith}
use mathlib.Core.Option.{Option, none, some, some-injective, none-ne-some, some-ne-none}
use Rattle.std.proofs.lemmas.Bool.{eq-eqb, ne_eqb, both_ways}
use lib.Signed.{lt_z}
use Rattle.source.specs.declared.ObjectId.{ObjectId}
use Rattle.source.specs.Ids.{is_same_id}
use Rattle.book.proofs.Chains.{same_is}
use Rattle.queue.specs.declared.entry.Entry.{Entry}
use Rattle.queue.specs.Waiting.{enter}
use Rattle.model.specs.Book.{Waits, Row, no_row, find, bump}
use Rattle.model.specs.Past.{In}
use Rattle.model.specs.Steady.{occ}
use Rattle.std.specs.Str.{bytes_eq}

pub occ_head : (e : Entry ℕ) (q : Waits) → occ e.value (e ∷ q) ≡ suc (occ e.value q)
occ_head e q = rw (eq-eqb e.value e.value refl) (omega arith)

pub occ_skip : (j : ℕ) (e : Entry ℕ) (q : Waits) → j ≢ e.value → occ j (e ∷ q) ≡ occ j q
occ_skip j e q ne = rw (ne_eqb e.value j (λ x. ne (sym x))) (omega arith)

pub occ_enter : (e : Entry ℕ) (q : Waits) → occ e.value (enter e q) ≡ suc (occ e.value q)
occ_enter e [] = occ_head e []
occ_enter e (j ∷ js) = go (lt_z j.date e.date) (occ_enter e js)
  where
    go : (b : Bool) → occ e.value (enter e js) ≡ suc (occ e.value js) → occ e.value (cond b (e ∷ j ∷ js) (j ∷ enter e js)) ≡ suc (occ e.value (j ∷ js))
    go true ih = occ_head e (j ∷ js)
    go false ih = omega (arith, ih)

pub occ_enter_other : (j : ℕ) (e : Entry ℕ) (q : Waits) → j ≢ e.value → occ j (enter e q) ≡ occ j q
occ_enter_other j e [] ne = occ_skip j e [] ne
occ_enter_other j e (i ∷ is) ne = go (lt_z i.date e.date) (occ_enter_other j e is ne)
  where
    go : (b : Bool) → occ j (enter e is) ≡ occ j is → occ j (cond b (e ∷ i ∷ is) (i ∷ enter e is)) ≡ occ j (i ∷ is)
    go true ih = occ_skip j e (i ∷ is) ne
    go false ih = omega (arith, ih)

pub length_enter : {V : Type 0} (e : Entry V) (q : List (Entry V)) → length (enter e q) ≡ suc (length q)
length_enter e [] = refl
length_enter e (j ∷ js) = go (lt_z j.date e.date) (length_enter e js)
  where
    go : (b : Bool) → length (enter e js) ≡ suc (length js) → length (cond b (e ∷ j ∷ js) (j ∷ enter e js)) ≡ suc (length (j ∷ js))
    go true ih = refl
    go false ih = ap suc ih

pub in_enter : {V : Type 0} (x e : Entry V) (q : List (Entry V)) → In e (enter x q) → (e ≡ x) ⊎ In e q
in_enter x e [] h = h
in_enter x e (j ∷ js) h = go (lt_z j.date x.date) (in_enter x e js) h
  where
    go : (b : Bool) → (In e (enter x js) → (e ≡ x) ⊎ In e js) → In e (cond b (x ∷ j ∷ js) (j ∷ enter x js)) → (e ≡ x) ⊎ In e (j ∷ js)
    go true ih i = i
    go false ih (inl i) = inr (inl i)
    go false ih (inr i) = ⊎_elim inl (λ i'. inr (inr i')) (ih i)

-- ids
pub same_id_refl : (a : ObjectId) → is_same_id a a ≡ true
same_id_refl a = go a.bytes
  where
    go : (x : List ℕ) → bytes_eq x x ≡ true
    go [] = refl
    go (x ∷ xs) = rw (eq-eqb x x refl) (go xs)

pub same_id_false : (a b : ObjectId) → is_same_id a b ≡ false → a ≢ b
same_id_false a b h e = both_ways (is_same_id a b) h (subst (λ (x : ObjectId). is_same_id a x ≡ true) e (same_id_refl a))

-- what find finds
pub find_some : (i : ObjectId) (rs : List Row) (k : ℕ) → find i rs ≡ some k → (k < length rs) × ((get_or rs k no_row).id ≡ i)
find_some i [] k e = absurd (none-ne-some k e)
find_some i (r ∷ rs) k e = go (is_same_id r.id i) refl (find i rs) refl (find_some i rs) k e
  where
    go : (b : Bool) → is_same_id r.id i ≡ b → (o : Option ℕ) → find i rs ≡ o → ((j : ℕ) → find i rs ≡ some j → (j < length rs) × ((get_or rs j no_row).id ≡ i))
        → (j : ℕ) → cond b (some 0) (bump o) ≡ some j → (j < length (r ∷ rs)) × ((get_or (r ∷ rs) j no_row).id ≡ i)
    go true eb o eo ih zero e' = (omega arith, same_is r.id i eb)
    go true eb o eo ih (suc j) e' = absurd (let z : 0 ≡ suc j = some-injective 0 (suc j) e' in omega arith)
    go false eb none eo ih j e' = absurd (none-ne-some j e')
    go false eb (some m) eo ih zero e' = absurd (let z : suc m ≡ 0 = some-injective (suc m) 0 e' in omega arith)
    go false eb (some m) eo ih (suc j) e' =
        let z : suc m ≡ suc j = some-injective (suc m) (suc j) e' in
        let z' : m ≡ j = omega arith in
        let w = ih j (eo ∙ ap {B = Option ℕ} some z') in (omega (arith, w.0), w.1)

pub find_none : (i : ObjectId) (rs : List Row) (k : ℕ) → find i rs ≡ none → k < length rs → (get_or rs k no_row).id ≢ i
find_none i [] k e h = absurd (not-suc-le-zero h)
find_none i (r ∷ rs) k e h = go (is_same_id r.id i) refl (find i rs) refl (find_none i rs) k e h
  where
    go : (b : Bool) → is_same_id r.id i ≡ b → (o : Option ℕ) → find i rs ≡ o → ((j : ℕ) → find i rs ≡ none → j < length rs → (get_or rs j no_row).id ≢ i)
        → (j : ℕ) → cond b (some 0) (bump o) ≡ none → j < length (r ∷ rs) → (get_or (r ∷ rs) j no_row).id ≢ i
    go true eb o eo ih j e' h' = absurd (some-ne-none 0 e')
    go false eb none eo ih zero e' h' = same_id_false r.id i eb
    go false eb none eo ih (suc j) e' h' = ih j eo (le_of_suc-le-suc h')
    go false eb (some m) eo ih j e' h' = absurd (some-ne-none (suc m) e')
