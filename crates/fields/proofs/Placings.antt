-- The scan of a store finds just the pairs that are written in it.
use Rattle.std.proofs.Common.{◌≡◌, ℕ, zero, suc, ◌+◌, ◌-◌, ◌*◌, ◌<◌, ◌≤◌, Bool, true, false, cond, eqb, ltb, List, [], ◌∷◌, ◌++◌, length, get_or, take, drop, Some, None, Ok, Err, sym, refl, ap, ◌∙◌, subst, arith, length-append, length-drop, length-take-le, drop-drop, take_at, drop_at, ltb-false, ltb-true, le-ltb, eq-eqb, ne_eqb, eqb-true}
use Rattle.std.specs.Str.{bytes_eq}
use Rattle.std.proofs.lemmas.Slice.Eq.{bytes_eq-Decides}
use Rattle.std.proofs.lemmas.List.{take-append-drop, drop_all}
use Rattle.source.specs.declared.Cause.{Cause}
use Rattle.source.specs.declared.Cause.TheVariants.{PastEnd, Misplaced}
use Rattle.fields.specs.Fields.{long, body_of, Field}
use Rattle.fields.specs.Pairs.{Found, Pairing, bad, good, text_of, pair_of, pair_at, go_on, scan}
use Rattle.fields.specs.Laws.{Whole, Entry, Others, done, more, Placed, Missing, Finds}
use Rattle.fields.proofs.Past.{pair_is}
use Rattle.fields.proofs.Scans.{opened, ended}

absurd : {G : Type 0} → ◌≡◌ {A = ℕ} 0 1 → G
absurd e = elim (let no : ⊥ = omega arith in no) [ ]

-- a field as it is written is the first field
field_of : (tag : ℕ) (body rest bs : List ℕ) → Whole tag body rest bs → Field bs tag body rest
field_of tag body rest bs w =
    let size : long bs ≡ length body = ap long w.is ∙ sym w.size in
    let tail : drop 3 bs ≡ body ++ rest = ap (drop 3) w.is in
    let whole : length bs ≡ 3 + (length body + length rest) = ap length w.is ∙ let z = length-append body rest in omega (arith, z) in
    record {
      within = omega (arith, size, whole);
      tagged = rw w.is;
      holds = rw (size, tail, take_at body rest (length body) refl);
      held = sym size;
      goes = rw (sym (drop-drop (long bs) 3 bs), size, tail, drop_at body rest (length body) refl);
      left = omega (arith, size, whole);
    }

text_good : (id mid text rest : List ℕ) (before at : ℕ) → Field mid 2 text rest → text_of id mid before at ≡ good id text (at + 3) (at + 3 + length text)
text_good id mid text rest before at f =
    rw (ne_eqb (length mid) 0 (λ z. let h = f.within in omega (arith, h, z)), le-ltb (length mid) (3 + long mid) f.within, eq-eqb (get_or mid 0 0) 2 (sym f.tagged), sym f.holds, sym f.held)

-- a pair as it is written is the first pair
entry_good : (id text rest bs : List ℕ) (at : ℕ) → Entry id text rest bs → pair_of bs at ≡ good id text (at + 23 + 3) (at + 23 + 3 + length text)
entry_good id text rest bs at e =
    sym (pair_is bs id id e.middle 1 at (field_of 1 id e.middle bs e.first) refl e.twenty refl)
    ∙ text_good id e.middle text rest at (at + 23) (field_of 2 text rest e.middle e.second)

entry_sizes : (id text rest bs : List ℕ) → Entry id text rest bs → length bs ≡ 26 + length text + length rest
entry_sizes id text rest bs e =
    let a = field_of 1 id e.middle bs e.first in
    let b = field_of 2 text rest e.middle e.second in
    omega (arith, a.left, a.held, b.left, b.held, e.twenty)

entry_rest : (id text rest bs : List ℕ) → Entry id text rest bs → drop (26 + length text) bs ≡ rest
entry_rest id text rest bs e =
    let a = field_of 1 id e.middle bs e.first in
    let b = field_of 2 text rest e.middle e.second in
    let x : 3 + long bs ≡ 23 = omega (arith, a.held, e.twenty) in
    let y : 3 + long e.middle ≡ 3 + length text = omega (arith, b.held) in
    let z : 23 + (3 + length text) ≡ 26 + length text = omega arith in
    sym (b.goes ∙ ap (λ (n : ℕ). drop n e.middle) y ∙ ap (drop (3 + length text)) (a.goes ∙ ap (λ (n : ℕ). drop n bs) x) ∙ drop-drop (3 + length text) 23 bs ∙ ap (λ (n : ℕ). drop n bs) z)

else_bad : (b : Bool) (g : Pairing) (c : Cause) (p : ℕ) (n t : List ℕ) (k e : ℕ) → good n t k e ≡ cond b (bad c p) g → (b ≡ false) × (good n t k e ≡ g)
else_bad true g c p n t k e h = (cc, cc)
else_bad false g c p n t k e h = (refl, h)

then_good : (b : Bool) (g : Pairing) (c : Cause) (p : ℕ) (n t : List ℕ) (k e : ℕ) → good n t k e ≡ cond b g (bad c p) → (b ≡ true) × (good n t k e ≡ g)
then_good true g c p n t k e h = (refl, h)
then_good false g c p n t k e h = (cc, cc)

-- a first field that is whole was so written
whole_of : (bs : List ℕ) (tag : ℕ) → 3 + long bs ≤ length bs → get_or bs 0 0 ≡ tag → Whole tag (body_of bs) (drop (3 + long bs) bs) bs
whole_of [] tag le is = absurd (omega arith)
whole_of (a ∷ []) tag le is = absurd (omega arith)
whole_of (a ∷ b ∷ []) tag le is = absurd (omega arith)
whole_of (a ∷ b ∷ c ∷ t) tag le is =
    let n = b * 256 + c in
    let rest : drop (3 + n) (a ∷ b ∷ c ∷ t) ≡ drop n t = sym (drop-drop n 3 (a ∷ b ∷ c ∷ t)) in
    record {
      hi = b;
      lo = c;
      size = length-take-le n t (omega arith);
      is = ap (λ (x : ℕ). x ∷ b ∷ c ∷ t) is ∙ ap (λ (l : List ℕ). tag ∷ b ∷ c ∷ l) (sym (take-append-drop n t) ∙ ap (λ (l : List ℕ). take n t ++ l) (sym rest));
    }

-- a first pair that is good was so written
good_entry : (bs : List ℕ) (at : ℕ) (name t : List ℕ) (k e : ℕ) → good name t k e ≡ pair_of bs at → (rest : List ℕ) × Entry name t rest bs × (e ≡ at + (26 + length t))
good_entry bs at name t k e h =
    let a = else_bad (ltb (length bs) (3 + long bs)) _ PastEnd at name t k e h in
    let b = then_good (eqb (get_or bs 0 0) 1) _ Misplaced at name t k e a.1 in
    let c = then_good (eqb (long bs) 20) _ Misplaced at name t k e b.1 in
    let mid = drop 23 bs in
    let d = else_bad (eqb (length mid) 0) _ Misplaced at name t k e c.1 in
    let f = else_bad (ltb (length mid) (3 + long mid)) _ PastEnd (at + 23) name t k e d.1 in
    let g = then_good (eqb (get_or mid 0 0) 2) _ Misplaced (at + 23) name t k e f.1 in
    let twenty : long bs ≡ 20 = eqb-true _ _ c.0 in
    let in-bs : 3 + long bs ≤ length bs = ltb-false _ _ a.0 in
    let in-mid : 3 + long mid ≤ length mid = ltb-false _ _ f.0 in
    let name-is : body_of bs ≡ name = let q = g.1 in cc in
    let text-is : body_of mid ≡ t = let q = g.1 in cc in
    let end_is : e ≡ at + 23 + 3 + long mid = let q = g.1 in cc in
    let w = whole_of bs 1 in-bs (eqb-true _ _ b.0) in
    let v = whole_of mid 2 in-mid (eqb-true _ _ g.0) in
    let size : length t ≡ long mid = sym (ap length text-is) ∙ length-take-le (long mid) (drop 3 mid) (let z = length-drop 3 mid in omega (arith, z)) in
    let middle-is : drop (3 + long bs) bs ≡ mid = ap (λ (n : ℕ). drop (3 + n) bs) twenty in (
      drop (3 + long mid) mid,
      record {
        middle = mid;
        twenty = sym (ap length name-is) ∙ length-take-le (long bs) (drop 3 bs) (let z = length-drop 3 bs in omega (arith, z)) ∙ twenty;
        first = subst (λ (x : List ℕ). Whole 1 x mid bs) name-is (subst (λ (m : List ℕ). Whole 1 (body_of bs) m bs) middle-is w);
        second = subst (λ (x : List ℕ). Whole 2 x (drop (3 + long mid) mid) mid) text-is v;
      },
      omega (arith, end_is, size),
    )

same_true : (xs ys : List ℕ) → xs ≡ ys → bytes_eq xs ys ≡ true
same_true xs ys e = (bytes_eq-Decides xs ys).1 e

same_false : (xs ys : List ℕ) (b : Bool) → bytes_eq xs ys ≡ b → (xs ≡ ys → ⊥) → b ≡ false
same_false xs ys true is ne = elim (ne ((bytes_eq-Decides xs ys).0 is)) [ ]
same_false xs ys false is ne = refl

module _ (store id : List ℕ) where
  -- where a part of the store begins
  record Begins (bs : List ℕ) (at n : ℕ) : Type 0 where
    is : drop at store ≡ bs
    sums : at + length bs ≡ length store
    enough : length bs ≤ n

  behind : (other text next bs : List ℕ) (at n : ℕ) → Begins bs at (suc n) → Entry other text next bs → Begins next (at + (26 + length text)) n
  behind other text next bs at n b e =
      let z = entry_sizes other text next bs e in
      record {
        is = sym (drop-drop (26 + length text) at store) ∙ ap (drop (26 + length text)) b.is ∙ entry_rest other text next bs e;
        sums = omega (arith, z, b.sums);
        enough = omega (arith, z, b.enough);
      }

  step : (other text next bs : List ℕ) (at n : ℕ) → Begins bs at (suc n) → Entry other text next bs → scan (suc n) id store at ≡ cond (bytes_eq other id) (Ok (Some at)) (scan n id store (at + (26 + length text)))
  step other text next bs at n b e =
      let z = entry_sizes other text next bs e in
      let k : at + 23 + 3 + length text ≡ at + (26 + length text) = omega arith in
      opened id store n at (good other text (at + 23 + 3) (at + 23 + 3 + length text)) (omega (arith, z, b.sums)) (sym (entry_good other text next bs at e) ∙ ap (λ (l : List ℕ). pair_of l at) (sym b.is))
      ∙ ap (λ (m : ℕ). cond (bytes_eq other id) (Ok (Some at)) (scan n id store m)) k

  past_one : (found : Found) (other text next bs : List ℕ) (at n : ℕ) → Begins bs at n → Entry other text next bs → (other ≡ id → ⊥)
      → ((k : ℕ) → Begins next (at + (26 + length text)) k → scan k id store (at + (26 + length text)) ≡ found) → scan n id store at ≡ found
  past_one found other text next bs at zero b e ne go = absurd (let z = entry_sizes other text next bs e in let h = b.enough in omega (arith, z, h))
  past_one found other text next bs at (suc n) b e ne go =
      step other text next bs at n b e
      ∙ ap (λ (t : Bool). cond t (Ok (Some at)) (scan n id store (at + (26 + length text)))) (same_false other id (bytes_eq other id) refl ne)
      ∙ go n (behind other text next bs at n b e)

  -- what a scan gives behind pairs of other ids
  past : (f : ℕ → Found) (left bs : List ℕ) (at p n : ℕ) → Begins bs at n → Others id left bs p → ((m : ℕ) → Begins left (at + p) m → scan m id store (at + p) ≡ f (at + p)) → scan n id store at ≡ f (at + p)
  past f left bs at p n b (done _ _ is zero_is) go =
      let z : at + p ≡ at = omega (arith, zero_is) in
      ap (scan n id store) (sym z) ∙ go n (record { is = ap (λ (k : ℕ). drop k store) z ∙ b.is ∙ is; sums = omega (arith, z, ap length is, b.sums); enough = omega (arith, ap length is, b.enough) })
  past f left bs at p n b (more other text next _ m _ e ne o sum) go =
      let w : at + (26 + length text) + m ≡ at + p = omega (arith, sum) in
      past_one (f (at + p)) other text next bs at n b e ne (λ k h.
      past f left next (at + (26 + length text)) m k h o (λ j g. ap (scan j id store) w ∙ go j (subst (λ (x : ℕ). Begins left x j) w g) ∙ ap f (sym w)) ∙ ap f w)

  whole : Begins store 0 (length store)
  whole = record { is = refl; sums = omega arith; enough = omega arith }

  placed_found : (p : ℕ) → Placed store id p → scan (length store) id store 0 ≡ Ok (Some p)
  placed_found p w =
      let z : 0 + p ≡ p = omega arith in
      past (λ (q : ℕ). Ok (Some q)) w.left store 0 p (length store) whole w.others (λ m b. at_left m b) ∙ ap (λ (q : ℕ). Ok (Some q)) z
    where
      at_left : (m : ℕ) → Begins w.left (0 + p) m → scan m id store (0 + p) ≡ Ok (Some (0 + p))
      at_left zero b = absurd (let y = entry_sizes id w.text w.rest w.left w.entry in let h = b.enough in omega (arith, y, h))
      at_left (suc m) b = step id w.text w.rest w.left (0 + p) m b w.entry ∙ ap (λ (t : Bool). cond t (Ok (Some (0 + p))) (scan m id store (0 + p + (26 + length w.text)))) (same_true id id refl)

  missing_found : Missing store id → scan (length store) id store 0 ≡ Ok None
  missing_found w = past (λ _. Ok None) [] store 0 w.size (length store) whole w.others (λ m b. ended id store m (0 + w.size) (let h = b.sums in omega (arith, h)))

  -- what a scan from `at` on shows of the bytes there
  abbrev Shown : Found → ℕ → List ℕ → Type 0
  Shown (Ok None) at bs = Missing bs id
  Shown (Err m) at bs = Unit {0}
  Shown (Ok (Some p)) at bs = (q : ℕ) × (p ≡ at + q) × Placed bs id q

  prepend : (f : Found) (other text next bs : List ℕ) (at : ℕ) → Entry other text next bs → (other ≡ id → ⊥) → Shown f (at + (26 + length text)) next → Shown f at bs
  prepend (Ok None) other text next bs at e ne s = record { size = 26 + length text + s.size; others = more other text next bs s.size (26 + length text + s.size) e ne s.others refl }
  prepend (Err m) other text next bs at e ne s = tt
  prepend (Ok (Some p)) other text next bs at e ne s =
      let w = s.2 in (
        26 + length text + s.0,
        omega (arith, s.1),
        record { text = w.text; left = w.left; rest = w.rest; others = more other text next bs s.0 (26 + length text + s.0) e ne w.others refl; entry = w.entry },
      )

  at_end : (at : ℕ) → length store ≤ at → Missing (drop at store) id
  at_end at le = record { size = 0; others = done (drop at store) 0 (drop_all at store le) refl }

  module _ (at n : ℕ) (lt : at < length store) (go : (e : ℕ) → at < e → e ≤ length store → Shown (scan n id store e) e (drop e store)) where
    by_same : (name t : List ℕ) (k e : ℕ) → good name t k e ≡ pair_at store at → (b : Bool) → bytes_eq name id ≡ b → Shown (cond b (Ok (Some at)) (scan n id store e)) at (drop at store)
    by_same name t k e is true same =
        let g = good_entry (drop at store) at name t k e is in
        let z : name ≡ id = (bytes_eq-Decides name id).0 same in
        (0, omega arith, record { text = t; left = drop at store; rest = g.0; others = done (drop at store) 0 refl refl; entry = subst (λ (i : List ℕ). Entry i t g.0 (drop at store)) z g.1 })
    by_same name t k e is false same =
        let g = good_entry (drop at store) at name t k e is in
        let sizes = entry_sizes name t g.0 (drop at store) g.1 in
        let left = length-drop at store in
        let end : at + (26 + length t) ≡ e = omega (arith, g.2) in
        let rest : drop e store ≡ g.0 = ap (λ (i : ℕ). drop i store) (sym end) ∙ sym (drop-drop (26 + length t) at store) ∙ entry_rest name t g.0 (drop at store) g.1 in
        let s = go e (omega (arith, end)) (omega (arith, end, sizes, left)) in
        prepend (scan n id store e) name t g.0 (drop at store) at g.1 (λ z. absurd (let q : ◌≡◌ {A = Bool} true false = sym (same_true name id z) ∙ same in cc))
        (subst (λ (i : ℕ). Shown (scan n id store e) i g.0) (sym end) (subst (Shown (scan n id store e) e) rest s))

    by_pair : (p : Pairing) → p ≡ pair_at store at → Shown (go_on (scan n id store) id at p) at (drop at store)
    by_pair (bad c p) is = tt
    by_pair (good name t k e) is = by_same name t k e is (bytes_eq name id) refl

  by_end : (n at : ℕ) (b : Bool) → ltb at (length store) ≡ b → ((e : ℕ) → at < e → e ≤ length store → Shown (scan n id store e) e (drop e store)) → Shown (cond b (go_on (scan n id store) id at (pair_at store at)) (Ok None)) at (drop at store)
  by_end n at true is go = by_pair at n (ltb-true at (length store) is) go (pair_at store at) refl
  by_end n at false is go = at_end at (ltb-false at (length store) is)

  shown : (n at : ℕ) → length store - at ≤ n → Shown (scan n id store at) at (drop at store)
  shown zero at le = at_end at (omega arith)
  shown (suc n) at le = by_end n at (ltb at (length store)) refl (λ e lt in-store. shown n e (omega arith))

  found_placed : (p : ℕ) → scan (length store) id store 0 ≡ Ok (Some p) → Placed store id p
  found_placed p is =
      let s : Shown (Ok (Some p)) 0 store = subst (λ (f : Found). Shown f 0 store) is (shown (length store) 0 (omega arith)) in
      let z : s.0 ≡ p = omega (arith, s.1) in
      subst (Placed store id) z s.2

  found_missing : scan (length store) id store 0 ≡ Ok None → Missing store id
  found_missing is = subst (λ (f : Found). Shown f 0 store) is (shown (length store) 0 (omega arith))

  -- the laws of what a scan finds
  pub finds : (r : Found) → r ≡ scan (length store) id store 0 → Finds store id r
  finds r is = record {
    takes = λ p w. is ∙ placed_found p w;
    placed = λ p e. found_placed p (sym is ∙ e);
    lacks = λ w. is ∙ missing_found w;
    missing = λ e. found_missing (sym is ∙ e);
  }
