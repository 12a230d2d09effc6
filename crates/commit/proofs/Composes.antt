-- A text that fits was composed by the layout, and the place of a misfit lies in the text or at its end.
use Rattle.std.proofs.Common.{◌≡◌, ℕ, ◌+◌, ◌≤◌, Bool, true, false, cond, eqb, List, [], ◌∷◌, ◌++◌, map, length, ℤ, Some, None, Ok, Err, codes, Option, Result, sym, refl, ap, ◌∙◌, subst, append_assoc, arith, eqb-true}
use lib.Seq.{append_snoc}
use borrow.Author.Tests.{eqb-false}
use Rattle.std.proofs.lemmas.List.{append-nil}
use Rattle.std.specs.Option.{is_some}
use Rattle.source.specs.declared.ObjectId.{ObjectId}
use Rattle.commit.specs.Layout.{onto, lines_of, words_of, behind, name_of, named, moment_of, zoneb, stamp, stamped, behind_line, ended, committer_of, closed, authored, fathered, parents_of, planted, commit_of, reading_of, Reading, fits, misfits}
use Rattle.commit.specs.Laws.{Lacks, Spaced, AllNames, parent_lines, Written, Composed}
use Rattle.commit.proofs.Cuts.{worded}
use Rattle.commit.proofs.Fronts.{behind_is, named_some}

-- the first line of a text, cut off at its line feed
record Cut (t l : List ℕ) (ls : List (List ℕ)) : Type 0 where
  tail : List ℕ
  is : t ≡ l ++ 10 ∷ tail
  lacks : Lacks 10 l
  lines : lines_of tail ≡ ls

cut_onto : (b : ℕ) (bs l : List ℕ) (ls k : List (List ℕ)) → (b ≡ 10 → ⊥) → lines_of bs ≡ k → onto b k ≡ l ∷ ls → ((m : List ℕ) (ms : List (List ℕ)) → lines_of bs ≡ m ∷ ms → Cut bs m ms) → Cut (b ∷ bs) l ls
cut_onto b bs l ls [] ne is e more = absurd (cc)
cut_onto b bs l ls (m ∷ ms) ne is e more =
    let r = more m ms is in
    let first : b ∷ m ≡ l = cc in
    let others : ms ≡ ls = cc in
    record {
      tail = r.tail;
      is = ap (λ (y : List ℕ). b ∷ y) r.is ∙ ap (λ (y : List ℕ). y ++ 10 ∷ r.tail) first;
      lacks = subst (Lacks 10) first (ne, r.lacks);
      lines = r.lines ∙ others;
    }

cut_by : (b : ℕ) (bs l : List ℕ) (ls : List (List ℕ)) (c : Bool) → eqb b 10 ≡ c → cond c ([] ∷ lines_of bs) (onto b (lines_of bs)) ≡ l ∷ ls → ((m : List ℕ) (ms : List (List ℕ)) → lines_of bs ≡ m ∷ ms → Cut bs m ms) → Cut (b ∷ bs) l ls
cut_by b bs l ls true is e more =
    let first : [] ≡ l = cc in
    let others : lines_of bs ≡ ls = cc in
    record {
      tail = bs;
      is = ap (λ (y : ℕ). y ∷ bs) (eqb-true b 10 is) ∙ ap (λ (y : List ℕ). y ++ 10 ∷ bs) first;
      lacks = subst (Lacks 10) first tt;
      lines = others;
    }
cut_by b bs l ls false is e more = cut_onto b bs l ls (lines_of bs) (eqb-false b 10 is) refl e more

cut : (t l : List ℕ) (ls : List (List ℕ)) → lines_of t ≡ l ∷ ls → Cut t l ls
cut [] l ls e = absurd (cc)
cut (b ∷ bs) l ls e = cut_by b bs l ls (eqb b 10) refl e (cut bs)

-- words joined again
abbrev join : List (List ℕ) → List ℕ
join [] = []
join (w ∷ []) = w
join (w ∷ v ∷ ws) = w ++ 32 ∷ join (v ∷ ws)

join_onto : (b : ℕ) (f : List ℕ) (o : List (List ℕ)) → join ((b ∷ f) ∷ o) ≡ b ∷ join (f ∷ o)
join_onto b f [] = refl
join_onto b f (v ∷ vs) = refl

join_by : (b : ℕ) (bs f : List ℕ) (o : List (List ℕ)) (c : Bool) → eqb b 32 ≡ c → words_of bs ≡ f ∷ o → join (words_of bs) ≡ bs → join (cond c ([] ∷ words_of bs) (onto b (words_of bs))) ≡ b ∷ bs
join_by b bs f o true is w e = rw (w, (rw w at e), eqb-true b 32 is)
join_by b bs f o false is w e = rw (w, join_onto b f o, (rw w at e))

join_words : (x : List ℕ) → join (words_of x) ≡ x
join_words [] = refl
join_words (b ∷ bs) = let w = worded bs in join_by b bs w.first w.others (eqb b 32) refl w.are (join_words bs)

spaced_onto : (u who : List ℕ) → Spaced who → Spaced (u ++ 32 ∷ who)
spaced_onto [] [] h = refl
spaced_onto [] (y ∷ ys) h = h
spaced_onto (x ∷ []) who h = spaced_onto [] who h
spaced_onto (x ∷ y ∷ ys) who h = spaced_onto (y ∷ ys) who h

-- a line whose last two words are a date and a zone
record Dated (x : List ℕ) (d : ℤ) : Type 0 where
  who : List ℕ
  day : List ℕ
  zone : List ℕ
  spaced : Spaced who
  day_is : moment_of day ≡ Some d
  zone_is : zoneb zone ≡ true
  is : x ≡ who ++ (day ++ 32 ∷ zone)

dated_two : (v w : List ℕ) (d : ℤ) (b : Bool) → zoneb w ≡ b → cond b (moment_of v) None ≡ Some d → Dated (v ++ 32 ∷ w) d
dated_two v w d true is e = record { who = []; day = v; zone = w; spaced = tt; day_is = e; zone_is = is; is = refl }
dated_two v w d false is e = absurd (cc)

dated : (ws : List (List ℕ)) (d : ℤ) → stamp ws ≡ Some d → Dated (join ws) d
dated [] d e = absurd (cc)
dated (w ∷ []) d e = absurd (cc)
dated (v ∷ w ∷ []) d e = dated_two v w d (zoneb w) refl e
dated (u ∷ v ∷ w ∷ ws) d e =
    let r = dated (v ∷ w ∷ ws) d e in
    record {
      who = u ++ 32 ∷ r.who;
      day = r.day;
      zone = r.zone;
      spaced = spaced_onto u r.who r.spaced;
      day_is = r.day_is;
      zone_is = r.zone_is;
      is = ap (λ (y : List ℕ). u ++ 32 ∷ y) r.is ∙ sym (append_assoc u (32 ∷ r.who) (r.day ++ 32 ∷ r.zone));
    }

lacks_back : (c : ℕ) (a b : List ℕ) → Lacks c (a ++ b) → Lacks c b
lacks_back c [] b h = h
lacks_back c (x ∷ a) b h = lacks_back c a b h.1

lacks_front : (c : ℕ) (a b : List ℕ) → Lacks c (a ++ b) → Lacks c a
lacks_front c [] b h = tt
lacks_front c (x ∷ a) b h = (h.0, lacks_front c a b h.1)

ended_ok : (at : ℕ) (o : Option ℤ) (d : ℤ) → ended at o ≡ Ok d → o ≡ Some d
ended_ok at None d e = cc
ended_ok at (Some x) d e = cc

stamped_some : (o : Option (List ℕ)) (d : ℤ) → stamped o ≡ Some d → (x : List ℕ) × (o ≡ Some x) × (stamp (words_of x) ≡ Some d)
stamped_some None d e = ([], cc, cc)
stamped_some (Some x) d e = (x, refl, e)

-- the committer's line, before the rest
record Committed (t : List ℕ) (d : ℤ) : Type 0 where
  who : List ℕ
  day : List ℕ
  zone : List ℕ
  rest : List ℕ
  who_is : Lacks 10 who × Spaced who
  day_is : moment_of day ≡ Some d
  zone_is : zoneb zone ≡ true
  is : t ≡ codes "committer " ++ (who ++ (day ++ 32 ∷ (zone ++ 10 ∷ rest)))

committed : (t : List ℕ) (at : ℕ) (ls : List (List ℕ)) (d : ℤ) → lines_of t ≡ ls → committer_of at ls ≡ Ok d → Committed t d
committed t at [] d is e = absurd (cc)
committed t at (l ∷ ls) d is e =
    let c = cut t l ls is in
    let s = stamped_some (behind (codes "committer ") l) d (ended_ok at _ d e) in
    let x = s.0 in
    let line : l ≡ codes "committer " ++ x = behind_is (codes "committer ") l x s.1 in
    let r = dated (words_of x) d s.2 in
    let parts : x ≡ r.who ++ (r.day ++ 32 ∷ r.zone) = sym (join_words x) ∙ r.is in
    let lacks : Lacks 10 (r.who ++ (r.day ++ 32 ∷ r.zone)) = subst (Lacks 10) parts (lacks_back 10 (codes "committer ") x (subst (Lacks 10) line c.lacks)) in
    record {
      who = r.who;
      day = r.day;
      zone = r.zone;
      rest = c.tail;
      who_is = (lacks_front 10 r.who _ lacks, r.spaced);
      day_is = r.day_is;
      zone_is = r.zone_is;
      is = c.is
          ∙ ap (λ (y : List ℕ). y ++ 10 ∷ c.tail) (line ∙ ap (λ (y : List ℕ). codes "committer " ++ y) parts)
          ∙ append_assoc (codes "committer ") (r.who ++ (r.day ++ 32 ∷ r.zone)) (10 ∷ c.tail)
          ∙ ap (λ (y : List ℕ). codes "committer " ++ y) (append_assoc r.who (r.day ++ 32 ∷ r.zone) (10 ∷ c.tail) ∙ ap (λ (y : List ℕ). r.who ++ y) (append_assoc r.day (32 ∷ r.zone) (10 ∷ c.tail)));
    }

authored_fits : (at : ℕ) (go : Reading) (o : Option (List ℕ)) (d : ℤ) (qs : List ObjectId) → authored at go o ≡ fits d qs → (x : List ℕ) × (o ≡ Some x) × (go ≡ fits d qs)
authored_fits at go None d qs e = ([], cc, cc)
authored_fits at go (Some x) d qs e = (x, refl, e)

closed_fits : (ps : List ObjectId) (r : Result ℤ ℕ) (d : ℤ) (qs : List ObjectId) → closed ps r ≡ fits d qs → (r ≡ Ok d) × (ps ≡ qs)
closed_fits ps (Ok x) d qs e = (cc, cc)
closed_fits ps (Err p) d qs e = (cc, cc)

planted_fits : (at : ℕ) (go : Reading) (o : Option ObjectId) (d : ℤ) (qs : List ObjectId) → planted at go o ≡ fits d qs → (true ≡ is_some o) × (go ≡ fits d qs)
planted_fits at go None d qs e = absurd (cc)
planted_fits at go (Some n) d qs e = (refl, e)

-- the parents behind ps, and the two last lines
record Parented (t : List ℕ) (ps : List ObjectId) (d : ℤ) (qs : List ObjectId) : Type 0 where
  names : List (List ℕ)
  author : List ℕ
  last : List ℕ
  names_are : AllNames names
  parents_are : ps ++ map name_of names ≡ qs
  author_is : Lacks 10 author
  ends : Committed last d
  is : t ≡ parent_lines names (codes "author " ++ (author ++ 10 ∷ last))

module _ (t l : List ℕ) (ls : List (List ℕ)) (c : Cut t l ls) (at : ℕ) (ps qs : List ObjectId) (d : ℤ) where
  -- the line, taken apart at its word
  at_word : (w x : List ℕ) → behind w l ≡ Some x → t ≡ w ++ (x ++ 10 ∷ c.tail)
  at_word w x e = c.is ∙ ap (λ (y : List ℕ). y ++ 10 ∷ c.tail) (behind_is w l x e) ∙ append_assoc w x (10 ∷ c.tail)

  word_lacks : (w x : List ℕ) → behind w l ≡ Some x → Lacks 10 x
  word_lacks w x e = lacks_back 10 w x (subst (Lacks 10) (behind_is w l x e) c.lacks)

  by_named : (o : Option ObjectId) → named (behind (codes "parent ") l) ≡ o
      → fathered o (λ p. parents_of (behind_line at l) (ps ++ p ∷ []) ls) (authored at (closed ps (committer_of (behind_line at l) ls)) (behind (codes "author ") l)) ≡ fits d qs
      → ((p : ObjectId) → parents_of (behind_line at l) (ps ++ p ∷ []) ls ≡ fits d qs → Parented c.tail (ps ++ p ∷ []) d qs) → Parented t ps d qs
  by_named (Some p) is e more =
      let r = more p e in
      let n = named_some (behind (codes "parent ") l) (sym (ap is_some is)) in
      let same : name_of n.0 ≡ p =
      let f : ◌≡◌ {A = Option ObjectId} (Some (name_of n.0)) (Some p) = sym (ap named n.1 ∙ ap (λ (b : Bool). cond b (Some (name_of n.0)) None) n.2) ∙ is in cc in
      record {
        names = n.0 ∷ r.names;
        author = r.author;
        last = r.last;
        names_are = (n.2, r.names_are);
        parents_are = ap (λ (x : ObjectId). ps ++ x ∷ map name_of r.names) same ∙ sym (append_snoc ps p (map name_of r.names)) ∙ r.parents_are;
        author_is = r.author_is;
        ends = r.ends;
        is = at_word (codes "parent ") n.0 n.1 ∙ ap (λ (y : List ℕ). codes "parent " ++ (n.0 ++ 10 ∷ y)) r.is;
      }
  by_named None is e more =
      let a = authored_fits at (closed ps (committer_of (behind_line at l) ls)) (behind (codes "author ") l) d qs e in
      let f = closed_fits ps (committer_of (behind_line at l) ls) d qs a.2 in
      record {
        names = [];
        author = a.0;
        last = c.tail;
        names_are = tt;
        parents_are = append-nil ps ∙ f.1;
        author_is = word_lacks (codes "author ") a.0 a.1;
        ends = committed c.tail (behind_line at l) ls d c.lines f.0;
        is = at_word (codes "author ") a.0 a.1;
      }

parented : (ls : List (List ℕ)) (t : List ℕ) (at : ℕ) (ps qs : List ObjectId) (d : ℤ) → lines_of t ≡ ls → parents_of at ps ls ≡ fits d qs → Parented t ps d qs
parented [] t at ps qs d is e = absurd (cc)
parented (l ∷ ls) t at ps qs d is e =
    let c = cut t l ls is in
    by_named t l ls c at ps qs d (named (behind (codes "parent ") l)) refl e (λ p f. parented ls c.tail (behind_line at l) (ps ++ p ∷ []) qs d c.lines f)

-- what fits was composed by the layout
by_lines : (t : List ℕ) (ls : List (List ℕ)) (d : ℤ) (ps : List ObjectId) → lines_of t ≡ ls → commit_of 0 ls ≡ fits d ps → Written t d ps
by_lines t [] d ps is e = absurd (cc)
by_lines t (l ∷ ls) d ps is e =
    let c = cut t l ls is in
    let f = planted_fits 0 (parents_of (behind_line 0 l) [] ls) (named (behind (codes "tree ") l)) d ps e in
    let n = named_some (behind (codes "tree ") l) f.0 in
    let r = parented ls c.tail (behind_line 0 l) [] ps d c.lines f.1 in
    let k = r.ends in
    record {
      tree = n.0;
      names = r.names;
      author = r.author;
      who = k.who;
      day = k.day;
      zone = k.zone;
      rest = k.rest;
      tree_is = n.2;
      names_are = r.names_are;
      parents_are = r.parents_are;
      author_is = r.author_is;
      who_is = k.who_is;
      day_is = k.day_is;
      zone_is = k.zone_is;
      whole = at_word t l ls c 0 [] ps d (codes "tree ") n.0 n.1
          ∙ ap (λ (y : List ℕ). codes "tree " ++ (n.0 ++ 10 ∷ y)) (r.is ∙ ap (λ (y : List ℕ). parent_lines r.names (codes "author " ++ (r.author ++ 10 ∷ y))) k.is);
    }

-- the bytes that lines take
abbrev total : List (List ℕ) → ℕ
total [] = 0
total (l ∷ ls) = length l + 1 + total ls

total_onto : (b : ℕ) (ls : List (List ℕ)) (n : ℕ) → total ls ≤ n → total (onto b ls) ≤ n + 1
total_onto b [] n h = omega arith
total_onto b (l ∷ ls) n h = omega arith

total_by : (b : ℕ) (bs : List ℕ) (c : Bool) → total (lines_of bs) ≤ length bs → total (cond c ([] ∷ lines_of bs) (onto b (lines_of bs))) ≤ length bs + 1
total_by b bs true h = omega arith
total_by b bs false h = total_onto b (lines_of bs) (length bs) h

total_lines : (t : List ℕ) → total (lines_of t) ≤ length t
total_lines [] = omega arith
total_lines (b ∷ bs) = let h = total_by b bs (eqb b 10) (total_lines bs) in omega (arith, h)

ended_err : (at : ℕ) (o : Option ℤ) (p : ℕ) → ended at o ≡ Err p → at ≡ p
ended_err at None p e = cc
ended_err at (Some d) p e = cc

committer_err : (at : ℕ) (ls : List (List ℕ)) (p : ℕ) → committer_of at ls ≡ Err p → at ≡ p
committer_err at [] p e = cc
committer_err at (l ∷ ls) p e = ended_err at (stamped (behind (codes "committer ") l)) p e

closed_misfits : (ps : List ObjectId) (r : Result ℤ ℕ) (p : ℕ) → closed ps r ≡ misfits p → r ≡ Err p
closed_misfits ps (Ok d) p e = cc
closed_misfits ps (Err q) p e = cc

authored_misfits : (at next : ℕ) (go : Reading) (o : Option (List ℕ)) (p : ℕ) → at ≤ next → (go ≡ misfits p → next ≡ p) → authored at go o ≡ misfits p → p ≤ next
authored_misfits at next go None p le h e = let z : at ≡ p = cc in omega arith
authored_misfits at next go (Some x) p le h e = let z = h e in omega (arith, z)

fathered_misfits : (o : Option ObjectId) (more : ObjectId → Reading) (other : Reading) (p n : ℕ) → ((q : ObjectId) → more q ≡ misfits p → p ≤ n) → (other ≡ misfits p → p ≤ n) → fathered o more other ≡ misfits p → p ≤ n
fathered_misfits None more other p n a b e = b e
fathered_misfits (Some q) more other p n a b e = a q e

parents_within : (ls : List (List ℕ)) (at : ℕ) (ps : List ObjectId) (p : ℕ) → parents_of at ps ls ≡ misfits p → p ≤ at + total ls
parents_within [] at ps p e = let z : at ≡ p = cc in omega arith
parents_within (l ∷ ls) at ps p e =
    let next = behind_line at l in
    fathered_misfits (named (behind (codes "parent ") l)) (λ q. parents_of next (ps ++ q ∷ []) ls) (authored at (closed ps (committer_of next ls)) (behind (codes "author ") l)) p (at + total (l ∷ ls))
    (λ q f. let h = parents_within ls next (ps ++ q ∷ []) p f in omega (arith, h))
    (λ f. let h = authored_misfits at next (closed ps (committer_of next ls)) (behind (codes "author ") l) p (omega arith) (λ g. committer_err next ls p (closed_misfits ps (committer_of next ls) p g)) f in omega (arith, h))
    e

planted_misfits : (at : ℕ) (go : Reading) (o : Option ObjectId) (p n : ℕ) → at ≤ n → (go ≡ misfits p → p ≤ n) → planted at go o ≡ misfits p → p ≤ n
planted_misfits at go None p n le h e = let z : at ≡ p = cc in omega arith
planted_misfits at go (Some x) p n le h e = h e

commit_within : (ls : List (List ℕ)) (p : ℕ) → commit_of 0 ls ≡ misfits p → p ≤ total ls
commit_within [] p e = let z : 0 ≡ p = cc in omega arith
commit_within (l ∷ ls) p e = planted_misfits 0 (parents_of (behind_line 0 l) [] ls) (named (behind (codes "tree ") l)) p (total (l ∷ ls)) (omega arith) (λ f. let h = parents_within ls (behind_line 0 l) [] p f in omega (arith, h)) e

pub composed : (t : List ℕ) (m : Reading) → m ≡ reading_of t → Composed t m
composed t (fits d ps) e = by_lines t (lines_of t) d ps refl (sym e)
composed t (misfits p) e = let h = commit_within (lines_of t) p (sym e) in let k = total_lines t in omega (arith, h, k)
