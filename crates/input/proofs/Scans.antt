-- Fields of an input, one after another.
use Rattle.std.proofs.Common.{◌≡◌, ℕ, zero, suc, ◌+◌, ◌<◌, ◌≤◌, Bool, true, false, cond, eqb, List, [], length, get_or, take, is_some, Some, None, Option, Ok, sym, refl, ap, ◌∙◌, subst, arith, length-drop, le-ltb, lt-ltb, eq-eqb, ne_eqb}
use Rattle.fields.specs.Fields.{long, body_of, Field}
use Rattle.fields.specs.Steps.{GivesField}
use Rattle.fields.specs.declared.Field.{Field as FieldRead}
use Rattle.fields.specs.declared.Fields.{Fields}
use Rattle.fields.specs.declared.tail.Tail.{Tail}
use Rattle.model.specs.declared.Call.{Call}
use Rattle.input.specs.Inputs.{pastb, behind_field, call_of, misfit_from, on_call, call_list, calls_of, Parsed, bad, numbered, store_then}

-- a reader of fields: what it gives at the end, at a field that is cut short, and at a field
module _ {Y : Type 0} (go : ℕ → List ℕ → ℕ → Y) (stop cut : ℕ → Y) (one : (ℕ → List ℕ → ℕ → Y) → ℕ → List ℕ → ℕ → Y)
    (turn : (n : ℕ) (bs : List ℕ) (at : ℕ) → go (suc n) bs at ≡ cond (eqb (length bs) 0) (stop at) (cond (pastb bs) (cut at) (one go n bs at))) where
  pub at_stop : (n : ℕ) (bs : List ℕ) (at : ℕ) → length bs ≤ suc n → length bs ≡ 0 → go (suc n) bs at ≡ stop at
  at_stop n bs at le e = rw (turn n bs at, eq-eqb (length bs) 0 e)

  pub at_cut : (n : ℕ) (bs : List ℕ) (at : ℕ) → 0 < length bs → length bs < 3 + long bs → go (suc n) bs at ≡ cut at
  at_cut n bs at some short = rw (turn n bs at, ne_eqb (length bs) 0 (λ z. omega arith), lt-ltb (length bs) (3 + long bs) short)

  pub at_field : (n : ℕ) (bs : List ℕ) (at : ℕ) → 3 + long bs ≤ length bs → go (suc n) bs at ≡ one go n bs at
  at_field n bs at fits = rw (turn n bs at, ne_eqb (length bs) 0 (λ z. omega arith), le-ltb (length bs) (3 + long bs) fits)

  module _ (zero_is : (bs : List ℕ) (at : ℕ) → go zero bs at ≡ stop at) (all : List ℕ) (from : ℕ) where
    -- how far the fields are read
    pub record Sofar (rest : List ℕ) (place : ℕ) : Type 0 where
      pub sums : place + length rest ≡ from + length all
      pub turns : ℕ
      pub enough : length rest ≤ turns
      pub gives : go turns rest place ≡ go (length all) all from

    stop_by : (n : ℕ) (rest : List ℕ) (place : ℕ) → length rest ≡ 0 → go n rest place ≡ stop place
    stop_by zero rest place e = zero_is rest place
    stop_by (suc n) rest place e = at_stop n rest place (omega arith) e

    pub ends : (rest : List ℕ) (place : ℕ) → Sofar rest place → length rest ≡ 0 → stop place ≡ go (length all) all from
    ends rest place s e = sym (stop_by s.turns rest place e) ∙ s.gives

    cut_by : (n : ℕ) (rest : List ℕ) (place : ℕ) → length rest ≤ n → 0 < length rest → length rest < 3 + long rest → go n rest place ≡ cut place
    cut_by zero rest place le some short = elim (let f : ⊥ = omega arith in f) [ ]
    cut_by (suc n) rest place le some short = at_cut n rest place some short

    pub cuts : (rest : List ℕ) (place : ℕ) → Sofar rest place → 0 < length rest → length rest < 3 + long rest → cut place ≡ go (length all) all from
    cuts rest place s some short = sym (cut_by s.turns rest place s.enough some short) ∙ s.gives

    field_by : (n : ℕ) (rest : List ℕ) (place : ℕ) → length rest ≤ n → 3 + long rest ≤ length rest → (m : ℕ) × (length rest ≤ suc m) × (go n rest place ≡ one go m rest place)
    field_by zero rest place le fits = elim (let f : ⊥ = omega arith in f) [ ]
    field_by (suc n) rest place le fits = (n, le, at_field n rest place fits)

    -- the field is the last that is read: x is what it gives
    pub last : (rest : List ℕ) (place : ℕ) (x : Y) → Sofar rest place → 3 + long rest ≤ length rest → ((m : ℕ) → one go m rest place ≡ x) → x ≡ go (length all) all from
    last rest place x s fits is = let t = field_by s.turns rest place s.enough fits in sym (sym s.gives ∙ t.2 ∙ is t.0)

    -- one field more
    pub more : (rest body tail : List ℕ) (place tag : ℕ) → Sofar rest place → Field rest tag body tail
        → ((m : ℕ) → one go m rest place ≡ go m (behind_field rest) (place + (3 + long rest))) → Sofar tail (place + (3 + length body))
    more rest body tail place tag s f is =
        let t = field_by s.turns rest place s.enough f.within in
        record {
          sums = omega (arith, s.sums, f.left, f.held);
          turns = t.0;
          enough = omega (arith, t.1, f.left);
          gives = ap (λ (k : ℕ). go t.0 tail (place + (3 + k))) f.held ∙ ap (λ (x : List ℕ). go t.0 x (place + (3 + long rest))) f.goes ∙ sym (is t.0) ∙ sym t.2 ∙ s.gives;
        }

-- behind a field that an iterator gives
pub moved : (Q : List ℕ → ℕ → Type 0) (s t : Fields) (f : FieldRead) → GivesField s (Some (Ok f)) t → Q f.rest.bytes.now (s.rest.at + (3 + length f.body.now)) → Q t.rest.bytes.now t.rest.at
moved Q s t f g q =
    let at : f.rest.at ≡ s.rest.at + (3 + length f.body.now) = omega (arith, g.0, g.1) in
    subst (λ (r : Tail). Q r.bytes.now r.at) (sym g.3) (subst (λ (n : ℕ). Q f.rest.bytes.now n) (sym at) q)

-- ---- the calls
abbrev pub misfit_one : (ℕ → List ℕ → ℕ → Option ℕ) → ℕ → List ℕ → ℕ → Option ℕ
misfit_one go n bs at = cond (is_some (call_of (get_or bs 0 0) (body_of bs))) (go n (behind_field bs) (at + (3 + long bs))) (Some at)

abbrev pub Misfits : List ℕ → ℕ → List ℕ → ℕ → Type 0
Misfits all from = Sofar misfit_from (λ _. None) (λ at. Some at) misfit_one (λ _ _ _. refl) (λ _ _. refl) all from

pub misfit_ends : (all : List ℕ) (from : ℕ) (rest : List ℕ) (place : ℕ) → Misfits all from rest place → length rest ≡ 0 → None ≡ misfit_from (length all) all from
misfit_ends all from rest place s e = ends misfit_from (λ _. None) (λ at. Some at) misfit_one (λ _ _ _. refl) (λ _ _. refl) all from rest place s e

pub misfit_cuts : (all : List ℕ) (from : ℕ) (rest : List ℕ) (place : ℕ) → Misfits all from rest place → 0 < length rest → length rest < 3 + long rest → Some place ≡ misfit_from (length all) all from
misfit_cuts all from rest place s some short = cuts misfit_from (λ _. None) (λ at. Some at) misfit_one (λ _ _ _. refl) (λ _ _. refl) all from rest place s some short

pub same_call : (rest body tail : List ℕ) (tag : ℕ) (r : Option Call) → Field rest tag body tail → r ≡ call_of tag body → call_of (get_or rest 0 0) (body_of rest) ≡ r
same_call rest body tail tag r f e = sym (e ∙ ap (λ (t : ℕ). call_of t body) f.tagged ∙ ap (call_of (get_or rest 0 0)) f.holds)

pub misfit_here : (all : List ℕ) (from : ℕ) (rest body tail : List ℕ) (place tag : ℕ) (r : Option Call) → Misfits all from rest place → Field rest tag body tail → r ≡ call_of tag body → is_some r ≡ false
    → Some place ≡ misfit_from (length all) all from
misfit_here all from rest body tail place tag r s f e nay =
    last misfit_from (λ _. None) (λ at. Some at) misfit_one (λ _ _ _. refl) (λ _ _. refl) all from rest place (Some place) s f.within
    (λ m. rw (same_call rest body tail tag r f e, nay))

pub misfit_more : (all : List ℕ) (from : ℕ) (rest body tail : List ℕ) (place tag : ℕ) (r : Option Call) → Misfits all from rest place → Field rest tag body tail → r ≡ call_of tag body → is_some r ≡ true
    → Misfits all from tail (place + (3 + length body))
misfit_more all from rest body tail place tag r s f e yea =
    more misfit_from (λ _. None) (λ at. Some at) misfit_one (λ _ _ _. refl) (λ _ _. refl) all from rest body tail place tag s f
    (λ m. rw (same_call rest body tail tag r f e, yea))

enough_calls : (n m : ℕ) (bs : List ℕ) → length bs ≤ n → length bs ≤ m → call_list n bs ≡ call_list m bs
enough_calls zero zero bs a b = refl
enough_calls zero (suc m) bs a b = rw (eq-eqb (length bs) 0 (omega arith))
enough_calls (suc n) zero bs a b = rw (eq-eqb (length bs) 0 (omega arith))
enough_calls (suc n) (suc m) bs a b =
    let l = length-drop (3 + long bs) bs in
    rw (enough_calls n m (behind_field bs) (omega arith) (omega arith))

calls_by : (n : ℕ) (bs body tail : List ℕ) (tag : ℕ) (r : Option Call) → length bs ≤ n → Field bs tag body tail → r ≡ call_of tag body → call_list n bs ≡ on_call r (calls_of tail)
calls_by zero bs body tail tag r le f e = elim (let g : ⊥ = omega (arith, f.within) in g) [ ]
calls_by (suc n) bs body tail tag r le f e =
    rw (
      ne_eqb (length bs) 0 (λ z. omega (arith, f.within)),
      le-ltb (length bs) (3 + long bs) f.within,
      same_call bs body tail tag r f e,
      sym f.goes,
      enough_calls n (length tail) tail (omega (arith, f.left)) (omega arith),
    )

pub first_call : (bs body tail : List ℕ) (tag : ℕ) (r : Option Call) → Field bs tag body tail → r ≡ call_of tag body → calls_of bs ≡ on_call r (calls_of tail)
first_call bs body tail tag r f e = calls_by (length bs) bs body tail tag r (omega arith) f e

cut_by_calls : (n : ℕ) (bs : List ℕ) → length bs < 3 + long bs → call_list n bs ≡ []
cut_by_calls zero bs h = refl
cut_by_calls (suc n) bs h = tests (eqb (length bs) 0)
  where
    tests : (b : Bool) → cond b [] (cond (pastb bs) [] (on_call (call_of (get_or bs 0 0) (body_of bs)) (call_list n (behind_field bs)))) ≡ []
    tests true = refl
    tests false = rw (lt-ltb (length bs) (3 + long bs) h)

pub cut_calls : (bs : List ℕ) → length bs < 3 + long bs → calls_of bs ≡ []
cut_calls bs h = cut_by_calls (length bs) bs h

-- ---- the store
abbrev pub store_one : List ℕ → (ℕ → List ℕ → ℕ → Parsed) → ℕ → List ℕ → ℕ → Parsed
store_one whole go n bs at = cond (eqb (get_or bs 0 0) 16) (numbered (take at whole) (body_of bs) (behind_field bs) at) (go n (behind_field bs) (at + (3 + long bs)))

abbrev pub Stores : List ℕ → List ℕ → ℕ → Type 0
Stores all = Sofar (λ n bs at. store_then n all bs at) bad bad (store_one all) (λ _ _ _. refl) (λ _ _. refl) all 0

pub store_ends : (all rest : List ℕ) (place : ℕ) → Stores all rest place → length rest ≡ 0 → bad place ≡ store_then (length all) all all 0
store_ends all rest place s e = ends (λ n bs at. store_then n all bs at) bad bad (store_one all) (λ _ _ _. refl) (λ _ _. refl) all 0 rest place s e

pub store_cuts : (all rest : List ℕ) (place : ℕ) → Stores all rest place → 0 < length rest → length rest < 3 + long rest → bad place ≡ store_then (length all) all all 0
store_cuts all rest place s some short = cuts (λ n bs at. store_then n all bs at) bad bad (store_one all) (λ _ _ _. refl) (λ _ _. refl) all 0 rest place s some short

pub store_last : (all rest body tail : List ℕ) (place tag : ℕ) → Stores all rest place → Field rest tag body tail → tag ≡ 16 → numbered (take place all) body tail place ≡ store_then (length all) all all 0
store_last all rest body tail place tag s f is =
    ap (λ (x : List ℕ). numbered (take place all) x tail place) f.holds
    ∙ ap (λ (x : List ℕ). numbered (take place all) (body_of rest) x place) f.goes
    ∙ last (λ n bs at. store_then n all bs at) bad bad (store_one all) (λ _ _ _. refl) (λ _ _. refl) all 0 rest place _ s f.within
    (λ m. rw (eq-eqb (get_or rest 0 0) 16 (sym f.tagged ∙ is)))

pub store_more : (all rest body tail : List ℕ) (place tag : ℕ) → Stores all rest place → Field rest tag body tail → (tag ≡ 16 → ⊥) → Stores all tail (place + (3 + length body))
store_more all rest body tail place tag s f nay =
    more (λ n bs at. store_then n all bs at) bad bad (store_one all) (λ _ _ _. refl) (λ _ _. refl) all 0 rest body tail place tag s f
    (λ m. rw (ne_eqb (get_or rest 0 0) 16 (λ e. nay (f.tagged ∙ e))))
