-- A text that the layout composes is read as it was composed.
use Rattle.std.proofs.Common.{◌≡◌, ℕ, ◌<◌, ◌≤◌, Bool, true, false, cond, not, ◌&&◌, ◌||◌, eqb, leb, List, [], ◌∷◌, ◌++◌, map, length, ℤ, Some, None, codes, Option, sym, refl, ap, ◌∙◌, append_assoc, arith, eqb-true}
use lib.Seq.{append_snoc}
use Rattle.std.proofs.lemmas.Bool.Decides.{nat_tests}
use Rattle.std.proofs.lemmas.List.{append-nil}
use Rattle.source.specs.declared.ObjectId.{ObjectId}
use Rattle.commit.specs.Layout.{lines_of, words_of, hexb, all_hex, nameb, name_of, digitb, all_digits, number, amount_of, upward, downward, moment_of, zoneb, stamp, ended, committer_of, closed, behind_line, parents_of, fits, reading_of, commit_of}
use Rattle.commit.specs.Laws.{Lacks, Spaced, AllNames, parent_lines, Written}
use Rattle.commit.proofs.Walks.{parent_step}
use Rattle.commit.proofs.Cuts.{line_more, one_word, words_both, stamp_two}

lacks_both : (c : ℕ) (a b : List ℕ) → Lacks c a → Lacks c b → Lacks c (a ++ b)
lacks_both c [] b h k = k
lacks_both c (x ∷ a) b h k = (h.0, lacks_both c a b h.1 k)

hex_front : (d : ℕ) (b : Bool) → (hexb d && b) ≡ true → (d ≡ 10 → ⊥) × (b ≡ true)
hex_front d b h = (λ e. grind (arith, nat_tests), grind (arith, nat_tests))

hex_lacks : (ds : List ℕ) → all_hex ds ≡ true → Lacks 10 ds
hex_lacks [] h = tt
hex_lacks (d ∷ ds) h = let k = hex_front d (all_hex ds) h in (k.0, hex_lacks ds k.1)

name_lacks : (ds : List ℕ) → nameb ds ≡ true → Lacks 10 ds
name_lacks ds h = hex_lacks ds (second (eqb (length ds) 40) (all_hex ds) h)
  where
    second : (a b : Bool) → (a && b) ≡ true → b ≡ true
    second true b h = h
    second false b h = let z : false ≡ true = h in cc

abbrev lacksb : ℕ → List ℕ → Bool
lacksb c [] = true
lacksb c (x ∷ xs) = not (eqb x c) && lacksb c xs

lacks_front : (x c : ℕ) (b : Bool) → (not (eqb x c) && b) ≡ true → (x ≡ c → ⊥) × (b ≡ true)
lacks_front x c b h = (λ e. grind (arith, nat_tests), grind (arith, nat_tests))

lacks : (c : ℕ) (xs : List ℕ) → lacksb c xs ≡ true → Lacks c xs
lacks c [] h = tt
lacks c (x ∷ xs) h = let k = lacks_front x c (lacksb c xs) h in (k.0, lacks c xs k.1)

header : (w x r : List ℕ) → lacksb 10 w ≡ true → Lacks 10 x → lines_of (w ++ (x ++ 10 ∷ r)) ≡ (w ++ x) ∷ lines_of r
header w x r h k = ap lines_of (sym (append_assoc w x (10 ∷ r))) ∙ line_more (w ++ x) r (lacks_both 10 w x (lacks 10 w h) k)

parents : (d : ℤ) (names : List (List ℕ)) (rest : List ℕ) → AllNames names → ((at : ℕ) (qs : List ObjectId) → parents_of at qs (lines_of rest) ≡ fits d qs)
    → (at : ℕ) (ps : List ObjectId) → parents_of at ps (lines_of (parent_lines names rest)) ≡ fits d (ps ++ map name_of names)
parents d [] rest all end at ps = end at ps ∙ ap (fits d) (sym (append-nil ps))
parents d (n ∷ ns) rest all end at ps =
    let l = codes "parent " ++ n in
    let tail = parent_lines ns rest in
    ap (parents_of at ps) (header (codes "parent ") n tail refl (name_lacks n all.0))
    ∙ parent_step at ps l n (lines_of tail) refl all.0
    ∙ parents d ns rest all.1 end (behind_line at l) (ps ++ name_of n ∷ [])
    ∙ ap (fits d) (append_snoc ps (name_of n) (map name_of ns))

digits_front : (d : ℕ) (b : Bool) → (digitb d && b) ≡ true → (48 ≤ d) × (b ≡ true)
digits_front d b h = (grind (arith, nat_tests), grind (arith, nat_tests))

-- digits have no byte below theirs, as a space or a line feed
digits_lack : (c : ℕ) → c < 43 → (ds : List ℕ) → all_digits ds ≡ true → Lacks c ds
digits_lack c lt [] h = tt
digits_lack c lt (d ∷ ds) h = let k = digits_front d (all_digits ds) h in (λ e. omega (arith, k.0), digits_lack c lt ds k.1)

amount_digits : (a b : Bool) (x n : ℕ) → cond a (cond b (Some x) None) None ≡ Some n → b ≡ true
amount_digits true true x n e = refl
amount_digits true false x n e = cc
amount_digits false b x n e = cc

upward_some : (o : Option ℕ) (d : ℤ) → upward o ≡ Some d → (n : ℕ) × (o ≡ Some n)
upward_some None d e = (0, cc)
upward_some (Some n) d e = (n, refl)

downward_some : (o : Option ℕ) (d : ℤ) → downward o ≡ Some d → (n : ℕ) × (o ≡ Some n)
downward_some None d e = (0, cc)
downward_some (Some n) d e = (n, refl)

amount_lacks : (c : ℕ) → c < 43 → (ds : List ℕ) (n : ℕ) → amount_of ds ≡ Some n → Lacks c ds
amount_lacks c lt ds n e = digits_lack c lt ds (amount_digits (leb 1 (length ds) && leb (length ds) 19) (all_digits ds) (number 0 ds) n e)

moment_by : (c : ℕ) → c < 43 → (x : ℕ) (ds : List ℕ) (d : ℤ) (b : Bool) → eqb x 45 ≡ b → cond b (downward (amount_of ds)) (upward (amount_of (x ∷ ds))) ≡ Some d → Lacks c (x ∷ ds)
moment_by c lt x ds d true is e =
    let n = downward_some (amount_of ds) d e in
    let z : x ≡ 45 = eqb-true x 45 is in
    (λ f. omega (arith, z), amount_lacks c lt ds n.0 n.1)
moment_by c lt x ds d false is e = let n = upward_some (amount_of (x ∷ ds)) d e in amount_lacks c lt (x ∷ ds) n.0 n.1

-- a date is one word of one line
moment_lacks : (c : ℕ) → c < 43 → (w : List ℕ) (d : ℤ) → moment_of w ≡ Some d → Lacks c w
moment_lacks c lt [] d e = tt
moment_lacks c lt (x ∷ ds) d e = moment_by c lt x ds d (eqb x 45) refl e

zone_front : (s : ℕ) (a b : Bool) → ((eqb s 43 || eqb s 45) && (a && b)) ≡ true → (43 ≤ s) × (b ≡ true)
zone_front s a b h = (grind (arith, nat_tests), grind (arith, nat_tests))

-- and so is a zone
zone_lacks : (c : ℕ) → c < 43 → (w : List ℕ) → zoneb w ≡ true → Lacks c w
zone_lacks c lt [] h = tt
zone_lacks c lt (s ∷ ds) h = let k = zone_front s (eqb (length ds) 4) (all_digits ds) h in (λ e. omega (arith, k.0), digits_lack c lt ds k.1)

spaced_front : (x : ℕ) (xs : List ℕ) → Spaced (x ∷ xs) → (w : List ℕ) × (x ∷ xs ≡ w ++ 32 ∷ [])
spaced_front x [] h = ([], ap (λ (y : ℕ). y ∷ []) h)
spaced_front x (y ∷ ys) h = let r = spaced_front y ys h in (x ∷ r.0, ap (λ (l : List ℕ). x ∷ l) r.1)

-- the last two words of a line
stamps : (who day zone : List ℕ) → Spaced who → Lacks 32 day → Lacks 32 zone → zoneb zone ≡ true → stamp (words_of (who ++ (day ++ 32 ∷ zone))) ≡ moment_of day
stamps who day zone sp hd hz ok = by who sp
  where
    two : words_of (day ++ 32 ∷ zone) ≡ day ∷ zone ∷ []
    two = rw (words_both day zone, one_word day hd, one_word zone hz)

    by : (w : List ℕ) → Spaced w → stamp (words_of (w ++ (day ++ 32 ∷ zone))) ≡ moment_of day
    by [] h = rw (two, ok)
    by (x ∷ xs) h =
        let f = spaced_front x xs h in
        let words : words_of ((f.0 ++ 32 ∷ []) ++ (day ++ 32 ∷ zone)) ≡ (words_of f.0 ++ day ∷ []) ++ zone ∷ [] = rw (append_snoc f.0 32 (day ++ 32 ∷ zone), words_both f.0 (day ++ 32 ∷ zone), two, append_assoc (words_of f.0) (day ∷ []) (zone ∷ [])) in
        ap (λ (y : List ℕ). stamp (words_of (y ++ (day ++ 32 ∷ zone)))) f.1 ∙ rw (words, stamp_two (words_of f.0) day zone, ok)

-- what the layout composes is read as it was composed
pub reads_written : (t : List ℕ) (d : ℤ) (ps : List ObjectId) → Written t d ps → reading_of t ≡ fits d ps
reads_written t d ps w =
    let x = w.who ++ (w.day ++ 32 ∷ w.zone) in
    let last = codes "committer " ++ (w.who ++ (w.day ++ 32 ∷ (w.zone ++ 10 ∷ w.rest))) in
    let space : (y : List ℕ) → Lacks 10 y → Lacks 10 (32 ∷ y) = λ y h. ((λ e. omega arith), h) in
    let no-feed = moment_lacks 10 (omega arith) w.day d w.day_is in
    let line-is : Lacks 10 x = lacks_both 10 w.who _ w.who_is.0 (lacks_both 10 w.day _ no-feed (space _ (zone_lacks 10 (omega arith) w.zone w.zone_is))) in
    let same : w.who ++ (w.day ++ 32 ∷ (w.zone ++ 10 ∷ w.rest)) ≡ x ++ 10 ∷ w.rest =
    sym (append_assoc w.who (w.day ++ 32 ∷ w.zone) (10 ∷ w.rest) ∙ ap (λ (y : List ℕ). w.who ++ y) (append_assoc w.day (32 ∷ w.zone) (10 ∷ w.rest))) in
    let ends : lines_of last ≡ (codes "committer " ++ x) ∷ lines_of w.rest = ap (λ (y : List ℕ). lines_of (codes "committer " ++ y)) same ∙ header (codes "committer ") x w.rest refl line-is in
    let dates : (p : ℕ) (qs : List ObjectId) → closed qs (committer_of p (lines_of last)) ≡ fits d qs = λ p qs.
    ap (λ (ls : List (List ℕ)). closed qs (committer_of p ls)) ends
    ∙ ap (λ (o : Option ℤ). closed qs (ended p o)) (stamps w.who w.day w.zone w.who_is.1 (moment_lacks 32 (omega arith) w.day d w.day_is) (zone_lacks 32 (omega arith) w.zone w.zone_is) w.zone_is ∙ w.day_is) in
    let authors : (p : ℕ) (qs : List ObjectId) → parents_of p qs (lines_of (codes "author " ++ (w.author ++ 10 ∷ last))) ≡ fits d qs = λ p qs.
    ap (parents_of p qs) (header (codes "author ") w.author last refl w.author_is) ∙ dates (behind_line p (codes "author " ++ w.author)) qs in
    let l = codes "tree " ++ w.tree in
    let tail = parent_lines w.names (codes "author " ++ (w.author ++ 10 ∷ last)) in
    ap reading_of w.whole
    ∙ ap (commit_of 0) (header (codes "tree ") w.tree tail refl (name_lacks w.tree w.tree_is))
    ∙ rw w.tree_is (parents d w.names _ w.names_are authors (behind_line 0 l) [] ∙ ap (fits d) w.parents_are)
