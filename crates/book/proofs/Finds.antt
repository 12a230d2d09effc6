-- A row on the way down a chain, and the id that is looked for.
use Rattle.std.proofs.Common.{◌≡◌, ℕ, ◌+◌, ◌-◌, ◌<◌, ◌≤◌, ◌≢◌, Bool, true, false, cond, eqb, List, map, length, get_or, Some, None, Option, vec_items, sym, ap, ◌∙◌, subst, ⊎_elim, arith}
use Rattle.std.proofs.lemmas.Bool.{cases_eq, cond-true, cond-false, eq-eqb, ne_eqb}
use Rattle.std.proofs.lemmas.List.{length-map}
use Rattle.source.specs.declared.ObjectId.{ObjectId}
use Rattle.book.specs.declared.types.Row.{Row}
use Rattle.book.specs.declared.book.Book.{Book}
use Rattle.source.specs.Ids.{place, is_same_id}
use Rattle.book.specs.Rows.{no_id}
use Rattle.book.specs.Index.{hash, last, id_of, next_of}
use Rattle.book.specs.Model.{Compared}
use Rattle.book.proofs.Chains.{found_at, walk, last_le}
use Rattle.book.proofs.Inserts.{read_of, ids_front}

abbrev pub ids_in : Book → List ObjectId
ids_in b = map id_of (vec_items b.rows)

pub long : (b : Book) → b.used ≤ length (ids_in b)
long b = omega (arith, length-map (vec_items b.rows) id_of)

-- the row before in the chain
pub next_is : (b : Book) (i : ObjectId) (k : ℕ) (x : Row) → k < b.used → x ≡ get_or (vec_items b.rows) k x → hash (get_or (ids_in b) k no_id) b.limit ≡ hash i b.limit → x.next ≡ last (ids_in b) b.limit (hash i b.limit) k
next_is b i k x l e h =
    read_of next_of (vec_items b.rows) k x 0 (omega arith) e
    ∙ (b.chained k l ∙ ap (λ (a : ℕ). last (ids_in b) b.limit a k) h)

pub compared : (b : Book) (k : ℕ) (x : Row) (i : ObjectId) (r : Bool) → k < b.used → x ≡ get_or (vec_items b.rows) k x → r ≡ is_same_id x.id i → Compared b k i r
compared b k x i true l is e =
    let t : x.id ≡ get_or (ids_in b) k no_id = read_of id_of (vec_items b.rows) k x no_id (omega arith) is in
    sym (found_at i (ids_in b) b.used k (long b) l b.distinct (ap (λ (a : ObjectId). is_same_id a i) (sym t) ∙ sym e) ∙ ap (λ (xs : List ObjectId). place i xs 0) (ids_front (vec_items b.links) (vec_items b.rows) b.used))
compared b k x i false l is e =
    let t : x.id ≡ get_or (ids_in b) k no_id = read_of id_of (vec_items b.rows) k x no_id (omega arith) is in
    ap (λ (a : ObjectId). is_same_id a i) (sym t) ∙ sym e

-- where a link leads: the row's number plus one, or 0
abbrev pub link_of : Option ℕ → ℕ
link_of None = 0
link_of (Some k) = k + 1

link_back : (n : ℕ) (o : Option ℕ) → o ≡ cond (eqb n 0) None (Some (n - 1)) → link_of o ≡ n
link_back n o e =
    ⊎_elim
    (λ (z : n ≡ 0). ap link_of (e ∙ cond-true (eqb n 0) None (Some (n - 1)) (eq-eqb n 0 z)) ∙ sym z)
    (λ (z : n ≢ 0). ap link_of (e ∙ cond-false (eqb n 0) None (Some (n - 1)) (ne_eqb n 0 z)) ∙ omega (arith, z))
    (cases_eq n 0)

-- a walk down the chain of an id has come to this link
pub record Walked (b : Book) (i : ObjectId) (at : ℕ) : Type 0 where
  pub within : at ≤ b.used
  pub hashed : 0 < at → hash (get_or (ids_in b) (at - 1) no_id) b.limit ≡ hash i b.limit
  pub past : (j : ℕ) → at ≤ j → j < b.used → is_same_id (get_or (ids_in b) j no_id) i ≡ false

-- it has passed all but the first `n` rows
pub walked : (b : Book) (i : ObjectId) (n x : ℕ) (o : Option ℕ) → o ≡ cond (eqb x 0) None (Some (x - 1)) → x ≡ last (ids_in b) b.limit (hash i b.limit) n → n ≤ b.used → ((j : ℕ) → n ≤ j → j < b.used → is_same_id (get_or (ids_in b) j no_id) i ≡ false) → Walked b i (link_of o) × (link_of o ≤ n)
walked b i n x o link is u past =
    let w = walk (ids_in b) b.limit b.used n x i is u past in
    let e = link_back x o link in
    (subst (Walked b i) (sym e) (record { within = w.0; hashed = w.1; past = w.2 }), omega (arith, e, is, last_le (ids_in b) b.limit (hash i b.limit) n))

-- the row `k` was not the one, and links to the row before
pub walked_on : (b : Book) (i : ObjectId) (at : Option ℕ) (k : ℕ) (x : Row) (o : Option ℕ) → at ≡ Some k → Walked b i (link_of at) → x ≡ get_or (vec_items b.rows) k x → is_same_id (get_or (ids_in b) k no_id) i ≡ false → o ≡ cond (eqb x.next 0) None (Some (x.next - 1)) → Walked b i (link_of o) × (link_of o < link_of at)
walked_on b i at k x o here w is other link =
    let e : link_of at ≡ k + 1 = ap link_of here in
    let v = subst (Walked b i) e w in
    let l : k < b.used = omega (arith, v.within) in
    let n : k + 1 - 1 ≡ k = omega arith in
    let h : hash (get_or (ids_in b) k no_id) b.limit ≡ hash i b.limit = subst (λ (m : ℕ). hash (get_or (ids_in b) m no_id) b.limit ≡ hash i b.limit) n (v.hashed (omega arith)) in
    let r = walked b i k x.next o link (next_is b i k x l is h) (omega arith) (λ j m u.
    ⊎_elim
    (λ (q : j ≡ k). ap (λ (n : ℕ). is_same_id (get_or (ids_in b) n no_id) i) q ∙ other)
    (λ (q : j ≢ k). v.past j (omega arith) u)
    (cases_eq j k)) in
    (r.0, omega (arith, r.1, e))
