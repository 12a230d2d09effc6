-- The lines of a text, one after another.
use Rattle.std.proofs.Common.{◌≡◌, ℕ, zero, suc, ◌+◌, ◌-◌, ◌*◌, ◌/◌, ◌<◌, ◌≤◌, Bool, true, false, ◌&&◌, eqb, List, [], ◌∷◌, ◌++◌, length, get_or, take, drop, ℤ, Some, None, codes, sym, refl, ap, ◌∙◌, append_assoc, arith, suc-mul, length-append, length-take-le, take-take, drop-drop, take_at, ext_get_or, drop_at, eqb-true}
use Rattle.std.proofs.lemmas.List.{drop-take}
use Rattle.std.specs.List.{slice_get}
use Rattle.std.specs.Option.{is_some}
use Rattle.std.specs.Simd.{first_chunks}
use Rattle.std.proofs.lemmas.List.FromFn.{map-range_with_len_more, length-map-range_with_len, get_or-map-range_with_len}
use Rattle.std.proofs.lemmas.Option.{slice_get-get_or, slice_get_past}
use Rattle.source.specs.declared.ObjectId.{ObjectId}
use Rattle.commit.specs.Layout.{behind, behind_line, named, nameb, name_of, all_hex, committer_of, closed, authored, parents_of, fits, misfits, lines_of, commit_of}
use Rattle.commit.specs.Shapes.{name_at, names_in, names_of}
use Rattle.commit.proofs.Fronts.{behind_is, named_some, named_none}

pub forty : (ds : List ℕ) → true ≡ nameb ds → length ds ≡ 40
forty ds h = eqb-true (length ds) 40 (front (eqb (length ds) 40) (all_hex ds) h)
  where
    front : (a b : Bool) → true ≡ (a && b) → a ≡ true
    front true b h = refl
    front false b h = sym h

-- how far the parent lines are read
pub record Sofar (lines : List ℕ) (at : ℕ) (rest : List ℕ) (place : ℕ) : Type 0 where
  pub count : ℕ
  pub sums : place ≡ at + 48 * count
  pub goes : rest ≡ drop (48 * count) lines
  pub long : 48 * count + length rest ≡ length lines
  pub gives : parents_of place (names_in count lines) (lines_of rest) ≡ parents_of at [] (lines_of lines)

pub start : (lines : List ℕ) (at : ℕ) → Sofar lines at lines at
start lines at = record { count = 0; sums = omega arith; goes = refl; long = omega arith; gives = refl }

-- a parent line's parts
pub record Parent (rest l tail ds : List ℕ) : Type 0 where
  pub size : length l ≡ 47
  pub digits : take 40 (drop 7 rest) ≡ ds
  pub after : tail ≡ drop 48 rest

parent_parts : (rest l tail ds : List ℕ) → rest ≡ l ++ 10 ∷ tail → l ≡ codes "parent " ++ ds → length ds ≡ 40 → Parent rest l tail ds
parent_parts rest l tail ds e f forty =
    let size : length l ≡ 47 = ap length f ∙ length-append (codes "parent ") ds ∙ omega (arith, forty) in
    let whole : rest ≡ codes "parent " ++ (ds ++ 10 ∷ tail) = e ∙ ap (λ (m : List ℕ). m ++ 10 ∷ tail) f ∙ append_assoc (codes "parent ") ds (10 ∷ tail) in
    let seven : drop 7 rest ≡ ds ++ 10 ∷ tail = ap (drop 7) whole in
    record {
      size = size;
      digits = ap (take 40) seven ∙ take_at ds (10 ∷ tail) 40 forty;
      after = sym (sym (drop-drop 1 47 rest) ∙ ap (drop 1) (ap (drop 47) e ∙ drop_at l (10 ∷ tail) 47 size));
    }

-- a parent line, and a line that is no parent's
pub parent_step : (place : ℕ) (ps : List ObjectId) (l ds : List ℕ) (ls : List (List ℕ)) → behind (codes "parent ") l ≡ Some ds → nameb ds ≡ true → parents_of place ps (l ∷ ls) ≡ parents_of (behind_line place l) (ps ++ name_of ds ∷ []) ls
parent_step place ps l ds ls is ok = rw (is, ok)

pub one_parent : (lines : List ℕ) (at : ℕ) (rest l tail : List ℕ) (place next : ℕ) → Sofar lines at rest place
    → lines_of rest ≡ l ∷ lines_of tail → rest ≡ l ++ 10 ∷ tail → next ≡ place + (length l + 1) → true ≡ is_some (named (behind (codes "parent ") l)) → Sofar lines at tail next
one_parent lines at rest l tail place next s e cut n h =
    let k = named_some (behind (codes "parent ") l) h in
    let ds = k.0 in
    let q = parent_parts rest l tail ds cut (behind_is (codes "parent ") l ds k.1) (forty ds (sym k.2)) in
    let size : length rest ≡ 48 + length tail = ap length cut ∙ length-append l (10 ∷ tail) ∙ omega (arith, q.size) in
    let name : name_at lines s.count ≡ name_of ds = ap name_of (ap (take 40) (sym (drop-drop 7 (48 * s.count) lines) ∙ ap (drop 7) (sym s.goes)) ∙ q.digits) in
    let more : names_in (s.count + 1) lines ≡ names_in s.count lines ++ name_of ds ∷ [] =
    map-range_with_len_more (name_at lines) 0 s.count s.count (omega arith) ∙ ap (λ (x : ObjectId). names_in s.count lines ++ x ∷ []) name in
    let step = parent_step place (names_in s.count lines) l ds (lines_of tail) k.1 k.2 in
    record {
      count = s.count + 1;
      sums = omega (arith, s.sums, q.size);
      goes = q.after ∙ ap (drop 48) s.goes ∙ drop-drop 48 (48 * s.count) lines ∙ ap (λ (n : ℕ). drop n lines) (omega arith);
      long = omega (arith, s.long);
      gives = ap (λ (p : ℕ). parents_of p (names_in (s.count + 1) lines) (lines_of tail)) n ∙ ap (λ (ps : List ObjectId). parents_of (behind_line place l) ps (lines_of tail)) more ∙ sym (ap (parents_of place (names_in s.count lines)) e ∙ step) ∙ s.gives;
    }

-- a line that is no parent's
no_parent : (lines : List ℕ) (at : ℕ) (rest l tail : List ℕ) (place : ℕ) (s : Sofar lines at rest place) → lines_of rest ≡ l ∷ lines_of tail → false ≡ is_some (named (behind (codes "parent ") l))
    → authored place (closed (names_in s.count lines) (committer_of (behind_line place l) (lines_of tail))) (behind (codes "author ") l) ≡ parents_of at [] (lines_of lines)
no_parent lines at rest l tail place s e nay =
    let step : parents_of place (names_in s.count lines) (lines_of rest) ≡ authored place (closed (names_in s.count lines) (committer_of (behind_line place l) (lines_of tail))) (behind (codes "author ") l) = rw (e, named_none _ nay) in
    sym step ∙ s.gives

-- the author line, and the committer line behind it
pub at_author : (lines : List ℕ) (at : ℕ) (rest l tail x : List ℕ) (place next : ℕ) (s : Sofar lines at rest place) → lines_of rest ≡ l ∷ lines_of tail → next ≡ place + (length l + 1)
    → false ≡ is_some (named (behind (codes "parent ") l)) → behind (codes "author ") l ≡ Some x
    → closed (names_in s.count lines) (committer_of next (lines_of tail)) ≡ parents_of at [] (lines_of lines)
at_author lines at rest l tail x place next s e n nay is = rw n (rw is at (no_parent lines at rest l tail place s e nay))

-- a line that is neither a parent nor an author
pub misfit : (lines : List ℕ) (at : ℕ) (rest l tail : List ℕ) (place : ℕ) → Sofar lines at rest place → lines_of rest ≡ l ∷ lines_of tail
    → false ≡ is_some (named (behind (codes "parent ") l)) → behind (codes "author ") l ≡ None → misfits place ≡ parents_of at [] (lines_of lines)
misfit lines at rest l tail place s e nay is = rw is at (no_parent lines at rest l tail place s e nay)

pub tree_good : (t l tail : List ℕ) (at next : ℕ) → lines_of t ≡ l ∷ lines_of tail → next ≡ at + (length l + 1) → true ≡ is_some (named (behind (codes "tree ") l)) → parents_of next [] (lines_of tail) ≡ commit_of at (lines_of t)
tree_good t l tail at next e n h =
    let k = named_some (behind (codes "tree ") l) h in
    let step : commit_of at (lines_of t) ≡ parents_of (behind_line at l) [] (lines_of tail) = rw (e, k.1, k.2) in
    rw n (sym step)

pub tree_bad : (t l tail : List ℕ) (at : ℕ) → lines_of t ≡ l ∷ lines_of tail → false ≡ is_some (named (behind (codes "tree ") l)) → misfits at ≡ commit_of at (lines_of t)
tree_bad t l tail at e nay = rw (e, named_none _ nay)

pub name_at_lem : (b : List ℕ) (n i : ℕ) → i < n → slice_get (names_in n b) i ≡ Some (name_at b i)
name_at_lem b n i lt = slice_get-get_or (names_in n b) i (name_at b i) (let k = length-map-range_with_len (name_at b) 0 n in omega arith) ∙ ap (λ (x : ObjectId). Some x) (get_or-map-range_with_len (name_at b) 0 n i i (name_at b i) lt (omega arith))

pub name_past : (b : List ℕ) (n i : ℕ) → n ≤ i → slice_get (names_in n b) i ≡ None
name_past b n i le = slice_get_past (names_in n b) i (let k = length-map-range_with_len (name_at b) 0 n in omega arith)

pub fits_same : (a b : ℤ) (ps qs : List ObjectId) → a ≡ b → ps ≡ qs → fits a ps ≡ fits b qs
fits_same a b ps qs e f = cc

-- the parts of a front
part_same : (b : List ℕ) (n k : ℕ) → 48 * n ≤ length b → k < n → take 40 (drop (48 * k + 7) (take (48 * n) b)) ≡ take 40 (drop (48 * k + 7) b)
part_same b n k le lt =
    let m = 48 * n - (48 * k + 7) in
    let e : 48 * n ≡ 48 * k + 7 + m = omega arith in
    let f : 40 ≤ m = omega arith in
    ap (λ (j : ℕ). take 40 (drop (48 * k + 7) (take j b))) e
    ∙ ap (take 40) (drop-take (48 * k + 7) m b)
    ∙ take-take 40 m (drop (48 * k + 7) b) f

names_same : (a b : List ℕ) (n : ℕ) → ((k : ℕ) → k < n → name_at a k ≡ name_at b k) → names_in n a ≡ names_in n b
names_same a b n h =
    let d : ObjectId = name_at a 0 in
    let la = length-map-range_with_len (name_at a) 0 n in
    let lb = length-map-range_with_len (name_at b) 0 n in
    ext_get_or d (names_in n a) (names_in n b) (la ∙ sym lb) (λ i lt.
    let l : i < n = omega arith in
    get_or-map-range_with_len (name_at a) 0 n i i d l (omega arith) ∙ h i l ∙ sym (get_or-map-range_with_len (name_at b) 0 n i i d l (omega arith)))

pub names_front : (b : List ℕ) (m n : ℕ) → m ≡ 48 * n → 48 * n ≤ length b → names_of (take m b) ≡ names_in n b
names_front b m n is le =
    let l : length (take (48 * n) b) ≡ 48 * n = length-take-le (48 * n) b le in
    let q : length (take (48 * n) b) / 48 ≡ n = ap (λ (k : ℕ). k / 48) l ∙ omega arith in
    ap (λ (j : ℕ). names_of (take j b)) is
    ∙ ap (λ (j : ℕ). names_in j (take (48 * n) b)) q
    ∙ names_same (take (48 * n) b) b n (λ k lt. ap name_of (part_same b n k le lt))

pub length_names : (b : List ℕ) → length (names_of b) ≡ length b / 48
length_names b = length-map-range_with_len (name_at b) 0 (length b / 48)

-- the line i of 48 bytes, and the name on it
chunk_at : (n k i : ℕ) (b d : List ℕ) → i < k → get_or (first_chunks n k b) i d ≡ take n (drop (i * n) b)
chunk_at n zero i b d lt = absurd (omega arith)
chunk_at n (suc k) zero b d lt = ap (λ (j : ℕ). take n (drop j b)) (let z : 0 ≡ 0 * n = omega arith in z)
chunk_at n (suc k) (suc i) b d lt = chunk_at n k i (drop n b) d (omega arith) ∙ ap (take n) (drop-drop (i * n) n b ∙ ap (λ (j : ℕ). drop j b) (let h = suc-mul i n in omega arith))

pub name_on : (b line : List ℕ) (i : ℕ) → i < length b / 48 → line ≡ get_or (first_chunks 48 (length b / 48) b) i [] → Some (name_of (take 40 (drop 7 line))) ≡ slice_get (names_of b) i
name_on b line i lt is =
    let part : line ≡ take 48 (drop (i * 48) b) = is ∙ chunk_at 48 (length b / 48) i b [] lt in
    let at : i * 48 + 7 ≡ 48 * i + 7 = omega arith in
    ap (λ (l : List ℕ). Some (name_of (take 40 (drop 7 l)))) part
    ∙ ap (λ (l : List ℕ). Some (name_of (take 40 l))) (drop-take 7 41 (drop (i * 48) b))
    ∙ ap (λ (l : List ℕ). Some (name_of l)) (take-take 40 41 (drop 7 (drop (i * 48) b)) (omega arith) ∙ ap (take 40) (drop-drop 7 (i * 48) b ∙ ap (λ (j : ℕ). drop j b) at))
    ∙ sym (name_at_lem b (length b / 48) i lt)
