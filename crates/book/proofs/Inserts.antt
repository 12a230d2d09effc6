-- The two writes that bring a row in: the row itself, and its bucket's head.
use Rattle.std.proofs.Common.{◌≡◌, ℕ, ◌+◌, ◌<◌, ◌≤◌, ◌≢◌, List, [], ◌∷◌, ◌++◌, map, length, get_or, take, set, None, sym, refl, ap, ◌∙◌, subst, ⊎_elim, arith}
use Rattle.std.proofs.lemmas.Bool.{cases_eq}
use Rattle.std.proofs.lemmas.List.{get_or-set_same, get_or-set_other, get_or-map, map-set, set-get_or, take-map, take_more_set, length-map, length-set}
use Rattle.source.specs.declared.ObjectId.{ObjectId}
use Rattle.book.specs.declared.types.Metadata.{Metadata}
use Rattle.book.specs.declared.types.Row.{Row}
use Rattle.source.specs.Ids.{place}
use Rattle.book.specs.Rows.{Entry, entry, Inside}
use Rattle.book.specs.Index.{hash, id_of, head_of, next_of, Chain, Heads, Apart, Chained, Headed, Distinct}
use Rattle.book.proofs.Chains.{chain_push, heads_push, apart_push}

pub ids_of_lem : (links : List ObjectId) (rows : List Row) → map (λ (e : Entry). e.id) (map (entry links) rows) ≡ map id_of rows
ids_of_lem links [] = refl
ids_of_lem links (r ∷ rs) = ap (λ (l : List ObjectId). r.id ∷ l) (ids_of_lem links rs)

-- what is searched is the front of the ids
pub ids_front : (links : List ObjectId) (rows : List Row) (used : ℕ) → take used (map id_of rows) ≡ map (λ (e : Entry). e.id) (map (entry links) (take used rows))
ids_front links rows used = take-map id_of used rows ∙ sym (ids_of_lem links (take used rows))

pub read_of : {X : Type 0} (f : Row → X) (rows : List Row) (k : ℕ) (x : Row) (d : X) → k < length rows → x ≡ get_or rows k x → f x ≡ get_or (map f rows) k d
read_of f rows k x d l e = ap f e ∙ sym (get_or-map f rows k x d l)

abbrev pub head_row : Row → ℕ → Row
head_row r v = record { id = r.id; date = r.date; first = r.first; count = r.count; metadata = r.metadata; head = v; next = r.next }

abbrev span : Row → ℕ
span r = r.first + r.count

module _ (rows : List Row) (used : ℕ) (new : Row) (h : ℕ) (x : Row) (v : ℕ) (lh : h < length rows) (e : x ≡ get_or (set rows used new) h x) where
  abbrev after : List Row
  after = set (set rows used new) h (head_row x v)

  in_one : h < length (set rows used new)
  in_one = simp length-set lh

  two_writes : {X : Type 0} (f : Row → X) → ((r : Row) (n : ℕ) → f (head_row r n) ≡ f r) → map f after ≡ set (map f rows) used (f new)
  two_writes f keeps =
      map-set f (set rows used new) h (head_row x v)
      ∙ (ap (set (map f (set rows used new)) h) (keeps x v ∙ read_of f (set rows used new) h x (f x) in_one e)
      ∙ (set-get_or (map f (set rows used new)) h (f x)
      ∙ map-set f rows used new))

  pub entries_after : (links : List ObjectId) → used < length rows → map (entry links) (take (used + 1) after) ≡ map (entry links) (take used rows) ++ entry links new ∷ []
  entries_after links l =
      let k : used < length (map (entry links) rows) = omega (arith, length-map rows (entry links)) in
      sym (take-map (entry links) (used + 1) after)
      ∙ (ap (take (used + 1)) (two_writes (entry links) (λ r n. refl))
      ∙ (take_more_set (map (entry links) rows) used (entry links new) k
      ∙ ap (λ (es : List Entry). es ++ entry links new ∷ []) (take-map (entry links) used rows)))

  pub inside_after : (linked n : ℕ) → used < length rows → new.first ≡ linked → new.count ≡ n → Inside rows used linked → Inside after (used + 1) (linked + n)
  inside_after linked n l f c ins k d b =
      let la : length after ≡ length rows = simp length-set in
      let here : get_or (map span after) k (span d) ≡ span (get_or after k d) = get_or-map span after k d (span d) (omega arith) in
      let to : get_or (map span after) k (span d) ≡ get_or (set (map span rows) used (span new)) k (span d) = ap (λ (xs : List ℕ). get_or xs k (span d)) (two_writes span (λ r m. refl)) in
      let lm : used < length (map span rows) = omega (arith, length-map rows span) in
      ⊎_elim
      (λ (q : k ≡ used). let s : get_or (set (map span rows) used (span new)) k (span d) ≡ span new = rw q (get_or-set_same (map span rows) used (span new) (span d) lm) in omega arith)
      (λ (q : k ≢ used). let s : get_or (set (map span rows) used (span new)) k (span d) ≡ span (get_or rows k d) = get_or-set_other (map span rows) used k (span new) (span d) q ∙ get_or-map span rows k d (span d) (omega arith) in let o : span (get_or rows k d) ≤ linked = ins k d (omega arith) in omega arith)
      (cases_eq k used)

  module _ (m : ℕ) (lu : used < length rows) (lm : m ≤ length rows) (hh : h ≡ hash new.id m) (lhm : h < m) where
    ids_after : map id_of after ≡ set (map id_of rows) used new.id
    ids_after = two_writes id_of (λ r n. refl)

    lid : used < length (map id_of rows)
    lid = simp length-map lu

    lnx : used < length (map next_of rows)
    lnx = simp length-map lu

    lhd : m ≤ length (map head_of rows)
    lhd = simp length-map lm

    lhash : hash new.id m < m
    lhash = omega arith

    nexts_after : new.next ≡ get_or (map head_of rows) h 0 → map next_of after ≡ set (map next_of rows) used (get_or (map head_of rows) (hash new.id m) 0)
    nexts_after n = two_writes next_of (λ r k. refl) ∙ (ap (set (map next_of rows) used) n ∙ ap (λ (a : ℕ). set (map next_of rows) used (get_or (map head_of rows) a 0)) hh)

    heads_after : new.head ≡ get_or (map head_of rows) used 0 → v ≡ used + 1 → map head_of after ≡ set (map head_of rows) (hash new.id m) (used + 1)
    heads_after n vv =
        map-set head_of (set rows used new) h (head_row x v)
        ∙ (ap (λ (xs : List ℕ). set xs h v) (map-set head_of rows used new ∙ (ap (set (map head_of rows) used) n ∙ set-get_or (map head_of rows) used 0))
        ∙ (ap (λ (a : ℕ). set (map head_of rows) a v) hh ∙ ap (set (map head_of rows) (hash new.id m)) vv))

    pub chained_after : new.next ≡ get_or (map head_of rows) h 0 → Chained rows m used → Headed rows m used → Chained after m (used + 1)
    chained_after n ch hd =
        subst (λ (xs : List ObjectId). Chain xs (map next_of after) m (used + 1)) (sym ids_after)
        (subst (λ (ns : List ℕ). Chain (set (map id_of rows) used new.id) ns m (used + 1)) (sym (nexts_after n))
        (chain_push (map id_of rows) (map head_of rows) (map next_of rows) m used new.id lid lnx lhash ch hd))

    pub headed_after : new.head ≡ get_or (map head_of rows) used 0 → v ≡ used + 1 → Headed rows m used → Headed after m (used + 1)
    headed_after n vv hd =
        subst (λ (xs : List ObjectId). Heads xs (map head_of after) m (used + 1)) (sym ids_after)
        (subst (λ (ns : List ℕ). Heads (set (map id_of rows) used new.id) ns m (used + 1)) (sym (heads_after n vv))
        (heads_push (map id_of rows) (map head_of rows) (map next_of rows) m used new.id lid lhd lhash hd))

    pub distinct_after : None ≡ place new.id (map id_of (take used rows)) 0 → Distinct rows used → Distinct after (used + 1)
    distinct_after none ap' =
        subst (λ (xs : List ObjectId). Apart xs (used + 1)) (sym ids_after)
        (apart_push (map id_of rows) (map head_of rows) (map next_of rows) m used new.id lid (none ∙ ap (λ (xs : List ObjectId). place new.id xs 0) (sym (take-map id_of used rows))) ap')

-- a write that keeps what the index reads
module _ (rows : List Row) (k : ℕ) (x y : Row) (l : k < length rows) (e : x ≡ get_or rows k x) where
  one_write : {X : Type 0} (f : Row → X) → f y ≡ f x → map f (set rows k y) ≡ map f rows
  one_write f q = map-set f rows k y ∙ (ap (set (map f rows) k) (q ∙ read_of f rows k x (f x) l e) ∙ set-get_or (map f rows) k (f x))

  pub inside_kept : (used linked : ℕ) → used ≤ length rows → span y ≡ span x → Inside rows used linked → Inside (set rows k y) used linked
  inside_kept used linked u q ins j d b =
      let la : length (set rows k y) ≡ length rows = simp length-set in
      let s : span (get_or (set rows k y) j d) ≡ span (get_or rows j d) = sym (get_or-map span (set rows k y) j d (span d) (omega arith)) ∙ (ap (λ (xs : List ℕ). get_or xs j (span d)) (one_write span q) ∙ get_or-map span rows j d (span d) (omega arith)) in
      let o : span (get_or rows j d) ≤ linked = ins j d b in
      omega arith

  pub chained_kept : (m used : ℕ) → y.id ≡ x.id → y.next ≡ x.next → Chained rows m used → Chained (set rows k y) m used
  chained_kept m used qi qn h =
      subst (λ (xs : List ObjectId). Chain xs (map next_of (set rows k y)) m used) (sym (one_write id_of qi))
      (subst (λ (ns : List ℕ). Chain (map id_of rows) ns m used) (sym (one_write next_of qn)) h)

  pub headed_kept : (m used : ℕ) → y.id ≡ x.id → y.head ≡ x.head → Headed rows m used → Headed (set rows k y) m used
  headed_kept m used qi qh h =
      subst (λ (xs : List ObjectId). Heads xs (map head_of (set rows k y)) m used) (sym (one_write id_of qi))
      (subst (λ (ns : List ℕ). Heads (map id_of rows) ns m used) (sym (one_write head_of qh)) h)

  pub distinct_kept : (used : ℕ) → y.id ≡ x.id → Distinct rows used → Distinct (set rows k y) used
  distinct_kept used qi h = subst (λ (xs : List ObjectId). Apart xs used) (sym (one_write id_of qi)) h

-- the row with other metadata
abbrev pub meta_row : Row → Metadata → Row
meta_row r m = record { id = r.id; date = r.date; first = r.first; count = r.count; head = r.head; next = r.next; metadata = m }

-- the index does not read the metadata
pub meta_kept : (rows : List Row) (m used linked k : ℕ) (x : Row) (y : Metadata) → k < length rows → x ≡ get_or rows k x → used ≤ length rows → Inside rows used linked → Chained rows m used → Headed rows m used → Distinct rows used → Inside (set rows k (meta_row x y)) used linked × (Chained (set rows k (meta_row x y)) m used × (Headed (set rows k (meta_row x y)) m used × (Distinct (set rows k (meta_row x y)) used × Unit {0})))
meta_kept rows m used linked k x y l e u i c h d = (
  inside_kept rows k x (meta_row x y) l e used linked u refl i,
  (
    chained_kept rows k x (meta_row x y) l e m used refl refl c,
    (
      headed_kept rows k x (meta_row x y) l e m used refl refl h,
      (
        distinct_kept rows k x (meta_row x y) l e used refl d,
        tt,
      ),
    ),
  ),
)
