-- What a queue keeps of its places, in one record.
use Rattle.std.proofs.Common.{◌≡◌, ℕ, zero, suc, ◌+◌, ◌<◌, ◌≤◌, cond, eqb, ◌≢◌, List, [], ◌∷◌, length, get_or, take, vec_items, sym, ap, ◌∙◌, subst, ⊎_elim, arith}
use Rattle.std.proofs.lemmas.Bool.{cases_eq, cond-true, cond-false, eq-eqb, ne_eqb}
use Rattle.std.proofs.ByRecursion.{All-get_or, All-from_get_or, all_shuffled}
use Rattle.std.proofs.lemmas.List.{get_or-take, length-take-le, with_items_is}
use Rattle.queue.specs.declared.entry.Place.{Place}
use Rattle.queue.specs.declared.queue.Queue.{Queue}
use Rattle.queue.specs.Places.{entry}
use Rattle.queue.specs.Order.{Apart, Below, Numbered, Heaped, Heaps, ordered, waits}
use Rattle.queue.specs.Queue.{held}
use Rattle.std.specs.List.Sorted.{IsPermutation}
use Rattle.std.specs.Vec.{with_items}
use Rattle.queue.specs.Waiting.{enter}
use Rattle.queue.proofs.Drawn.{drawn, entered}
use Rattle.queue.proofs.Ranking.{first_of}

module _ {V : Type 0} where
  pub record Sound (ps : List (Place V)) (n m : ℕ) : Type 0 where
    pub within : n ≤ length ps
    pub few : n ≤ m
    pub heap : Heaped ps n
    pub apart : Apart (take n ps)
    pub numbered : Below m (take n ps)

  -- the ghost fields
  abbrev pub Kept : List (Place V) → ℕ → ℕ → Type 0
  Kept ps n m = record { within : n ≤ length ps; few : n ≤ m; heap : Heaps ps n; apart : Apart (take n ps); numbered : Numbered m ps n }

  below_of : (ps : List (Place V)) (n m : ℕ) → n ≤ length ps → Numbered m ps n → Below m (take n ps)
  below_of [] zero m l h = tt
  below_of [] (suc n) m l h = tt
  below_of (p ∷ ps) n m l h = All-from_get_or (λ q. q.order < m) (take n (p ∷ ps)) p (λ i j. let j' : i < n = omega (arith, length-take-le n (p ∷ ps) l) in subst (λ q. q.order < m) (sym (get_or-take n (p ∷ ps) i p j')) (h i p j'))

  pub kept_sound : (ps : List (Place V)) (n m : ℕ) → Kept ps n m → Sound ps n m
  unfolding Heaped
  kept_sound ps n m k = record { within = k.within; few = k.few; heap = λ p q d a b c f. k.heap (p, q, d) (b, c, f); apart = k.apart; numbered = below_of ps n m k.within k.numbered }

  pub sound_kept : (ps : List (Place V)) (n m : ℕ) → Sound ps n m → Kept ps n m
  unfolding Heaped
  sound_kept ps n m s = record {
    within = s.within;
    few = s.few;
    heap = λ w x. s.heap w.0 w.1 w.2 (omega arith) x.0 x.1 x.2;
    apart = s.apart;
    numbered = λ k d l. let l' : k < length (take n ps) = omega (arith, length-take-le n ps s.within) in subst (λ q. q.order < m) (get_or-take n ps k d l) (All-get_or (λ q. q.order < m) (take n ps) k d l' s.numbered);
  }

  pub sound_of : (q : Queue V) → Sound (vec_items q.places) q.len q.next
  sound_of q = kept_sound (vec_items q.places) q.len q.next (record { within = omega (arith, q.within, q.places.ok.0); few = q.few; heap = q.heap; apart = q.apart; numbered = q.numbered })

  -- the number of a new entry is above those of all that wait, and has not passed the counter
  pub numbering : (q : Queue V) (o : ℕ) → o ≡ cond (eqb q.len 0) 0 q.next → Below o (held q) × (q.len ≤ o) × (o ≤ q.next)
  numbering q o e =
      ⊎_elim
      (λ (z : q.len ≡ 0). let is : o ≡ 0 = e ∙ cond-true (eqb q.len 0) 0 q.next (eq-eqb q.len 0 z) in (subst (λ (n : ℕ). Below o (take n (vec_items q.places))) (sym z) tt, omega arith, omega arith))
      (λ (z : q.len ≢ 0). let is : o ≡ q.next = e ∙ cond-false (eqb q.len 0) 0 q.next (ne_eqb q.len 0 z) in (subst (λ (n : ℕ). Below n (held q)) (sym is) (sound_of q).numbered, omega (arith, q.few), omega arith))
      (cases_eq q.len 0)

  -- the top place p of a queue is pulled, and the first `last` of zs are its places then
  pub record Pulled (q : Queue V) (last : ℕ) (p : Place V) (zs : List (Place V)) : Type 0 where
    pub places : vec_items (with_items q.places zs) ≡ zs
    pub all : ordered (held q) ≡ p ∷ ordered (take last zs)
    pub sound : Sound zs last q.next

  pub pulled : (q : Queue V) (last : ℕ) (p : Place V) (ys zs : List (Place V)) → last + 1 ≡ q.len → ys ≡ vec_items q.places → length zs ≡ length ys
      → p ≡ get_or ys 0 p → IsPermutation (take (last + 1) ys) (p ∷ take last zs) → (Heaped ys (last + 1) → Heaped zs last) → Pulled q last p zs
  pulled q last p ys zs n same long top sh hp =
      let s = sound_of q in
      let xs = vec_items q.places in
      let moved : IsPermutation (held q) (p ∷ take last zs) = subst (λ (k : ℕ). IsPermutation (take k xs) (p ∷ take last zs)) n (subst (λ (l : List (Place V)). IsPermutation (take (last + 1) l) (p ∷ take last zs)) same sh) in
      let told = drawn p (held q) (take last zs) s.apart moved (first_of xs q.len p (omega (arith, n)) s.within (subst (λ (l : List (Place V)). p ≡ get_or l 0 p) same top) s.heap) in
      record {
        places = with_items_is q.places zs (omega (arith, long, ap length same, q.places.ok.0));
        all = told.0;
        sound = record {
          within = omega (arith, long, s.within, n, ap length same);
          few = omega (arith, s.few, n);
          heap = hp (subst (λ (l : List (Place V)). Heaped l (last + 1)) (sym same) (subst (λ (k : ℕ). Heaped xs k) (sym n) s.heap));
          apart = told.1;
          numbered = (all_shuffled (λ r. r.order < q.next) (held q) (p ∷ take last zs) moved s.numbered).1;
        };
      }

  pub record Added (q : Queue V) (p : Place V) (zs : List (Place V)) : Type 0 where
    pub places : vec_items (with_items q.places zs) ≡ zs
    pub all : waits (take (q.len + 1) zs) ≡ enter (entry p) (waits (held q))
    pub sound : Sound zs (q.len + 1) (p.order + 1)

  pub added : (q : Queue V) (p : Place V) (ys zs : List (Place V)) → q.len < length ys → ys ≡ vec_items q.places → length zs ≡ length ys
      → Below p.order (held q) → q.len ≤ p.order → IsPermutation (p ∷ take q.len ys) (take (q.len + 1) zs) → (Heaped ys q.len → Heaped zs (q.len + 1)) → Added q p zs
  added q p ys zs free same long nu few sh hp =
      let s = sound_of q in
      let moved : IsPermutation (p ∷ held q) (take (q.len + 1) zs) = subst (λ (l : List (Place V)). IsPermutation (p ∷ take q.len l) (take (q.len + 1) zs)) same sh in
      let told = entered p (held q) (take (q.len + 1) zs) s.apart nu moved in
      record {
        places = with_items_is q.places zs (omega (arith, long, ap length same, q.places.ok.0));
        all = told.0;
        sound = record {
          within = omega (arith, long, free);
          few = omega (arith, few);
          heap = hp (subst (λ (l : List (Place V)). Heaped l q.len) (sym same) s.heap);
          apart = told.1;
          numbered = told.2;
        };
      }

  pub refill_kept : (q : Queue V) (zs : List (Place V)) (n m : ℕ) → vec_items (with_items q.places zs) ≡ zs → Sound zs n m → Kept (vec_items (with_items q.places zs)) n m
  refill_kept q zs n m e s = subst (λ (l : List (Place V)). Kept l n m) (sym e) (sound_kept zs n m s)
