-- A store scanned from its front, one pair after another.
use Rattle.std.proofs.Common.{◌≡◌, ℕ, zero, suc, ◌-◌, ◌<◌, ◌≤◌, Bool, true, false, cond, Some, None, Ok, Err, List, length, sym, refl, ap, ◌∙◌, subst, arith, le-ltb, lt-ltb}
use Rattle.std.specs.Str.{bytes_eq}
use Rattle.source.specs.declared.Cause.{Cause}
use Rattle.fields.specs.declared.Misfit.{Misfit}
use Rattle.fields.specs.declared.Pair.{Pair}
use Rattle.fields.specs.declared.Pairs.{Pairs}
use Rattle.fields.specs.Steps.{GivesPair}
use Rattle.fields.specs.Pairs.{Pairing, misfit, bad, good, pair_at, go_on, scan}

-- a scan that has one turn more, at a place before the end
pub opened : (id store : List ℕ) (n at : ℕ) (p : Pairing) → at < length store → p ≡ pair_at store at → scan (suc n) id store at ≡ go_on (scan n id store) id at p
opened id store n at p lt is = rw (lt-ltb at (length store) lt, sym is)

-- at the end there is nothing, however many turns are left
pub ended : (id store : List ℕ) (n at : ℕ) → length store ≤ at → scan n id store at ≡ Ok None
ended id store zero at le = refl
ended id store (suc n) at le = rw (le-ltb at (length store) le)

module _ (id store : List ℕ) where
  -- the scan from `at` on gives what the scan of the whole gives
  pub record Scanned (at : ℕ) : Type 0 where
    pub turns : ℕ
    pub enough : length store - at ≤ turns
    pub gives : scan turns id store at ≡ scan (length store) id store 0

  pub start : Scanned 0
  start = record { turns = length store; enough = omega arith; gives = refl }

  step : (at n : ℕ) (p : Pairing) → length store - at ≤ n → scan n id store at ≡ scan (length store) id store 0 → at < length store → p ≡ pair_at store at
      → (m : ℕ) × (length store - at ≤ suc m) × (go_on (scan m id store) id at p ≡ scan (length store) id store 0)
  step at zero p le is lt e = elim (let no : ⊥ = omega arith in no) [ ]
  step at (suc m) p le is lt e = (m, le, sym (opened id store m at p lt e) ∙ is)

  result : (at : ℕ) (p : Pairing) → Scanned at → at < length store → p ≡ pair_at store at
      → (m : ℕ) × (length store - at ≤ suc m) × (go_on (scan m id store) id at p ≡ scan (length store) id store 0)
  result at p s lt e = step at s.turns p s.enough s.gives lt e

  pub at_end : (at : ℕ) → Scanned at → length store ≤ at → Ok None ≡ scan (length store) id store 0
  at_end at s le = sym (ended id store s.turns at le) ∙ s.gives

  pub at_bad : (at p : ℕ) (c : Cause) → Scanned at → at < length store → bad c p ≡ pair_at store at → misfit c p ≡ scan (length store) id store 0
  at_bad at p c s lt e = (result at (bad c p) s lt e).2

  pub at_pair : (at : ℕ) (name t : List ℕ) (k e : ℕ) → Scanned at → at < length store → good name t k e ≡ pair_at store at → true ≡ bytes_eq name id → Ok (Some at) ≡ scan (length store) id store 0
  at_pair at name t k e s lt is same =
      let r = result at (good name t k e) s lt is in
      ap (λ (b : Bool). cond b (Ok (Some at)) (scan r.0 id store e)) same ∙ r.2

  pub one_more : (at : ℕ) (name t : List ℕ) (k e : ℕ) → Scanned at → at < length store → good name t k e ≡ pair_at store at → false ≡ bytes_eq name id → at < e → Scanned e
  one_more at name t k e s lt is other on =
      let r = result at (good name t k e) s lt is in
      record {
        turns = r.0;
        enough = omega (arith, r.1);
        gives = ap (λ (b : Bool). cond b (Ok (Some at)) (scan r.0 id store e)) other ∙ r.2;
      }

  -- the same in the steps of an iterator over the pairs of the store
  module _ (s : Pairs) (same : s.store.now ≡ store) (so_far : Scanned s.at) where
    within : s.at < length s.store.now → s.at < length store
    within lt = subst (λ (b : List ℕ). s.at < length b) same lt

    here : (p : Pairing) → p ≡ pair_at s.store.now s.at → p ≡ pair_at store s.at
    here p is = is ∙ ap (λ (b : List ℕ). pair_at b s.at) same

    pub gives_end : (t : Pairs) → GivesPair s None t → Ok None ≡ scan (length store) id store 0
    gives_end t g = at_end s.at so_far (subst (λ (b : List ℕ). length b ≤ s.at) same g.0)

    pub gives_misfit : (t : Pairs) (m : Misfit) → GivesPair s (Some (Err m)) t → Err m ≡ scan (length store) id store 0
    gives_misfit t m g = at_bad s.at m.place m.cause so_far (within g.0) (here (bad m.cause m.place) g.1)

    pub gives_found : (t : Pairs) (at : ℕ) (p : Pair) → GivesPair s (Some (Ok (at, p))) t → true ≡ bytes_eq p.id.bytes id → Ok (Some at) ≡ scan (length store) id store 0
    gives_found t at p g e =
        ap (λ (n : ℕ). Ok (Some n)) g.1
        ∙ at_pair s.at p.id.bytes p.text.now p.place p.next so_far (within g.0) (here (good p.id.bytes p.text.now p.place p.next) g.2) e

    pub gives_other : (t : Pairs) (at : ℕ) (p : Pair) → GivesPair s (Some (Ok (at, p))) t → false ≡ bytes_eq p.id.bytes id → Scanned t.at
    gives_other t at p g e =
        let w = g.3 in
        subst Scanned (sym g.5)
        (one_more s.at p.id.bytes p.text.now p.place p.next so_far (within g.0) (here (good p.id.bytes p.text.now p.place p.next) g.2) e (omega (arith, w.0, w.1)))
