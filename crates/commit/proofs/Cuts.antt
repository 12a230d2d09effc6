-- Lines and words, cut at their first or last line feed or space.
use Rattle.std.proofs.Common.{◌≡◌, ℕ, suc, ◌+◌, ◌-◌, ◌<◌, Bool, true, false, cond, eqb, List, [], ◌∷◌, ◌++◌, length, get_or, take, drop, None, sym, refl, ap, subst, ◌∙◌, add-one, arith, length-drop, length-take-le, get_or-drop, drop-drop, ne_eqb}
use lib.Seq.{split_at}
use Rattle.std.proofs.lemmas.List.{take_rest, get_or-take}
use Rattle.commit.specs.Laws.{Lacks}
use Rattle.commit.specs.Layout.{onto, lines_of, words_of, zoneb, moment_of, stamp}

-- a list without a byte, by its elements
pub lacks_at : (c : ℕ) (t : List ℕ) → ((k : ℕ) → k < length t → get_or t k 0 ≡ c → ⊥) → Lacks c t
lacks_at c [] nay = tt
lacks_at c (b ∷ bs) nay = (nay 0 (omega arith), lacks_at c bs (λ k h. nay (suc k) (omega arith)))

pub line_more : (l r : List ℕ) → Lacks 10 l → lines_of (l ++ 10 ∷ r) ≡ l ∷ lines_of r
line_more [] r h = refl
line_more (b ∷ l) r h = rw (ne_eqb b 10 h.0, line_more l r h.1)

pub line_none : (t : List ℕ) → Lacks 10 t → lines_of t ≡ []
line_none [] h = refl
line_none (b ∷ bs) h = rw (ne_eqb b 10 h.0, line_none bs h.1)

pub one_word : (l : List ℕ) → Lacks 32 l → words_of l ≡ l ∷ []
one_word [] h = refl
one_word (b ∷ l) h = rw (ne_eqb b 32 h.0, one_word l h.1)

-- there is always a word
pub record Worded (t : List ℕ) : Type 0 where
  pub first : List ℕ
  pub others : List (List ℕ)
  pub are : words_of t ≡ first ∷ others

worded_by : (b : ℕ) (bs : List ℕ) (c : Bool) (f : List ℕ) (o : List (List ℕ)) → eqb b 32 ≡ c → words_of bs ≡ f ∷ o → Worded (b ∷ bs)
worded_by b bs true f o is e = record { first = []; others = words_of bs; are = rw is }
worded_by b bs false f o is e = record { first = b ∷ f; others = o; are = rw (is, e) }

pub worded : (t : List ℕ) → Worded t
worded [] = record { first = []; others = []; are = refl }
worded (b ∷ bs) = let w = worded bs in worded_by b bs (eqb b 32) w.first w.others refl w.are

onto_append : (b : ℕ) (f : List ℕ) (o ws : List (List ℕ)) (vs : List (List ℕ)) → vs ≡ f ∷ o → onto b (vs ++ ws) ≡ onto b vs ++ ws
onto_append b f o ws vs e = rw e

step_by : (b : ℕ) (bs ws : List ℕ) (c : Bool) → eqb b 32 ≡ c → words_of (bs ++ 32 ∷ ws) ≡ words_of bs ++ words_of ws → words_of (b ∷ (bs ++ 32 ∷ ws)) ≡ words_of (b ∷ bs) ++ words_of ws
step_by b bs ws true is e = rw (is, e)
step_by b bs ws false is e = let w = worded bs in rw (is, e) (onto_append b w.first w.others (words_of ws) (words_of bs) w.are)

-- the words on both sides of a space
pub words_both : (t u : List ℕ) → words_of (t ++ 32 ∷ u) ≡ words_of t ++ words_of u
words_both [] u = refl
words_both (b ∷ bs) u = step_by b bs u (eqb b 32) refl (words_both bs u)

-- the last two words alone count
pub stamp_two : (us : List (List ℕ)) (v w : List ℕ) → stamp ((us ++ v ∷ []) ++ w ∷ []) ≡ cond (zoneb w) (moment_of v) None
stamp_two [] v w = refl
stamp_two (u ∷ []) v w = refl
stamp_two (u ∷ t ∷ us) v w = stamp_more u t us v w (stamp_two (t ∷ us) v w)
  where
    stamp_more : (u t : List ℕ) (us : List (List ℕ)) (v w : List ℕ) → stamp (((t ∷ us) ++ v ∷ []) ++ w ∷ []) ≡ cond (zoneb w) (moment_of v) None → stamp (((u ∷ t ∷ us) ++ v ∷ []) ++ w ∷ []) ≡ cond (zoneb w) (moment_of v) None
    stamp_more u t [] v w e = e
    stamp_more u t (s ∷ us) v w e = e

pub stamp_bad : (us : List (List ℕ)) (w : List ℕ) → zoneb w ≡ false → stamp (us ++ w ∷ []) ≡ None
stamp_bad [] w nay = refl
stamp_bad (u ∷ []) w nay = rw nay
stamp_bad (u ∷ t ∷ us) w nay = more u t us w (stamp_bad (t ∷ us) w nay)
  where
    more : (u t : List ℕ) (us : List (List ℕ)) (w : List ℕ) → stamp ((t ∷ us) ++ w ∷ []) ≡ None → stamp ((u ∷ t ∷ us) ++ w ∷ []) ≡ None
    more u t [] w e = e
    more u t (s ∷ us) w e = e

-- what is behind the byte at i, as a part of a part gives it
tail_is : (t back : List ℕ) (i : ℕ) → back ≡ drop i t → take (length back - 1) (drop 1 back) ≡ drop (suc i) t
tail_is t back i e = take_rest back 1 ∙ ap (drop 1) e ∙ drop-drop 1 i t ∙ ap (λ (k : ℕ). drop k t) (add-one i)

parts : (t front back : List ℕ) (i b : ℕ) → i < length t → get_or t i 0 ≡ b → front ≡ take i t → back ≡ drop i t → t ≡ front ++ b ∷ take (length back - 1) (drop 1 back)
parts t front back i b lt is f k =
    let s = split_at t i 0 lt in
    let r = tail_is t back i k in
    cc

pub cut_line : (t front back : List ℕ) (i : ℕ) → i < length t → ((k : ℕ) → k < i → get_or t k 0 ≡ 10 → ⊥) → get_or t i 0 ≡ 10 → front ≡ take i t → back ≡ drop i t
    → (lines_of t ≡ front ∷ lines_of (take (length back - 1) (drop 1 back))) × (t ≡ front ++ 10 ∷ take (length back - 1) (drop 1 back))
cut_line t front back i lt nay is f k =
    let p = parts t front back i 10 lt is f k in
    let lacks : Lacks 10 (take i t) = lacks_at 10 (take i t) (λ j h e. let l : j < i = omega (arith, length-take-le i t (omega arith)) in nay j l (sym (get_or-take i t j 0 l) ∙ e)) in
    (ap lines_of p ∙ line_more front _ (subst (Lacks 10) (sym f) lacks), p)

pub cut_word : (t front back : List ℕ) (i : ℕ) → i < length t → ((k : ℕ) → i < k → k < length t → get_or t k 0 ≡ 32 → ⊥) → get_or t i 0 ≡ 32 → front ≡ take i t → back ≡ drop i t
    → words_of t ≡ words_of front ++ take (length back - 1) (drop 1 back) ∷ []
cut_word t front back i lt nay is f k =
    let r = tail_is t back i k in
    let lacks : Lacks 32 (drop (suc i) t) = lacks_at 32 (drop (suc i) t) (λ j h e. nay (suc i + j) (omega arith) (let z = length-drop (suc i) t in omega arith) (sym (get_or-drop (suc i) t j 0) ∙ e)) in
    ap words_of (parts t front back i 32 lt is f k) ∙ words_both front _ ∙ ap (λ (v : List (List ℕ)). words_of front ++ v) (one_word _ (subst (Lacks 32) (sym r) lacks))
