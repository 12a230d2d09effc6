-- Reads of a row, and writes of what the walks keep of it.
use Rattle.std.proofs.Common.{◌≡◌, ℕ, zero, suc, ◌+◌, ◌-◌, ◌<◌, ◌≤◌, List, [], ◌∷◌, map, length, get_or, take, drop, set, Some, None, Ok, Err, vec_items, vec_len, Bor, Option, Result, sym, refl, ap, ◌∙◌, subst, ⊎_elim, arith}
use Rattle.std.specs.List.{slice_get, HoldsAt}
use Rattle.std.specs.Result.{result_ok}
use Rattle.std.specs.Option.{MatchOption, option_copied, ok_or, unwrap_or}
use Rattle.std.proofs.lemmas.Option.{slice_get-get_or, slice_get_past, slice_get_read, slice_get_cases, slice_get_within, get_or_from_slice_get, unwrap_or-slice_get, none-some}
use Rattle.std.proofs.lemmas.List.{get_or_default, get_or_past, get_or-take, length-take-le, length-set}
use Rattle.source.specs.declared.ObjectId.{ObjectId}
use Rattle.book.specs.declared.types.Metadata.{Metadata}
use Rattle.book.specs.declared.types.Row.{Row}
use Rattle.book.specs.declared.types.Denial.{Denial}
use Rattle.book.specs.declared.types.Denial.TheVariants.{NoSuchRow}
use Rattle.book.specs.declared.book.Book.{Book}
use Rattle.book.specs.Rows.{Entry, entry, no_id}
use Rattle.book.proofs.Inserts.{meta_row}
use Rattle.book.proofs.Heads.{entries_long, entry_at, parents_long}
use Rattle.book.specs.Model.{Model, model, no_entry, holding, reading, reading_parent, metadata_of, rewrite, written, altered, Read, Linked}

-- a row that is taken, and one that is not
module _ (b : Book) (k : ℕ) (x : Row) (is : x ≡ get_or (vec_items b.rows) k x) (l : k < b.used) where
  entry_is : get_or (model b).entries k no_entry ≡ entry (vec_items b.links) x
  entry_is = entry_at b k x l ∙ ap (entry (vec_items b.links)) (sym is)

  nth_is : slice_get (model b).entries k ≡ Some (entry (vec_items b.links) x)
  nth_is = slice_get-get_or (model b).entries k no_entry (omega (arith, entries_long b)) ∙ ap (λ (e : Entry). Some e) entry_is

  count_long : length (entry (vec_items b.links) x).parents ≡ x.count
  count_long = ap (λ (r : Row). length (entry (vec_items b.links) r).parents) is ∙ parents_long b k x l ∙ ap (λ (r : Row). r.count) (sym is)

  pub row_in : Read b k (Ok x)
  row_in = (nth_is, entry_is, count_long, omega (arith, b.inside k x l, b.room, ap (λ (r : Row). r.first + r.count) is))

module _ (b : Book) (k : ℕ) (l : b.used ≤ k) where
  nth_none : slice_get (model b).entries k ≡ None
  nth_none = slice_get_past (model b).entries k (omega (arith, entries_long b))

  entry_none : get_or (model b).entries k no_entry ≡ no_entry
  entry_none = get_or_past (model b).entries k no_entry (omega (arith, entries_long b))

  pub row_past : Read b k (Err NoSuchRow)
  row_past = (nth_none, entry_none, refl)

-- what `get` finds in a slice
pub got : {X : Type 0} (xs : List X) (k : ℕ) (o : Option (Bor X)) → MatchOption o (length xs ≤ k) (λ x. (k < length xs) × HoldsAt (λ y. x.now ≡ y) xs k) → option_copied o ≡ slice_get xs k
got xs k None h = sym (slice_get_past xs k h)
got xs k (Some x) h = sym (slice_get_read xs (length xs) k x.now refl h.0 (h.1 x.now))

pub row_read : (b : Book) (k : ℕ) (o : Option Row) → o ≡ slice_get (take b.used (vec_items b.rows)) k → Read b k (ok_or o NoSuchRow)
row_read b k None e =
    let xs = take b.used (vec_items b.rows) in
    let long : length (take b.used (vec_items b.rows)) ≡ b.used = length-take-le b.used (vec_items b.rows) (omega (arith, b.within, b.lent, b.rows.ok.0)) in
    row_past b k (⊎_elim (λ h. absurd (none-some h.0 (e ∙ h.2))) (λ h. omega (arith, h.0, long)) (slice_get_cases xs k).1)
row_read b k (Some x) e =
    let xs = take b.used (vec_items b.rows) in
    let long : length (take b.used (vec_items b.rows)) ≡ b.used = length-take-le b.used (vec_items b.rows) (omega (arith, b.within, b.lent, b.rows.ok.0)) in
    let l : k < b.used = omega (arith, slice_get_within xs k x (sym e), long) in
    row_in b k x (sym (get_or_from_slice_get xs k x x (sym e)) ∙ get_or-take b.used (vec_items b.rows) k x l) l

parent_linked : (b : Book) (k n : ℕ) (x : Row) (o : Option ObjectId) → Read b k (Ok x) → o ≡ slice_get (entry (vec_items b.links) x).parents n → Linked b k n o
parent_linked b k n x None h e = (
  ap (reading_parent n) h.0 ∙ ap (reading (λ (q : ObjectId). q)) (sym e),
  ap (λ (i : Entry). get_or i.parents n no_id) h.1 ∙ sym (unwrap_or-slice_get (entry (vec_items b.links) x).parents n no_id) ∙ ap (λ (q : Option ObjectId). unwrap_or q no_id) (sym e),
)
parent_linked b k n x (Some p) h e = (
  ap (reading_parent n) h.0 ∙ ap (reading (λ (q : ObjectId). q)) (sym e),
  ap (λ (i : Entry). get_or i.parents n no_id) h.1 ∙ get_or_from_slice_get (entry (vec_items b.links) x).parents n p no_id (sym e),
)

read_ok : (b : Book) (k : ℕ) (x : Row) (r : Result Row Denial) → Read b k r → Some x ≡ result_ok r → Read b k (Ok x)
read_ok b k x (Ok y) h e = let q : y ≡ x = cc in subst (λ z. Read b k (Ok z)) q h
read_ok b k x (Err d) h e = absurd (none-some x (sym e))

-- a parent of a row that was read
pub link_read : (b : Book) (k n : ℕ) (x : Row) (r : Result Row Denial) (o : Option ObjectId) → Read b k r → Some x ≡ result_ok r → (x.first + x.count ≤ vec_len b.links → o ≡ slice_get (take (x.first + x.count - x.first) (drop x.first (vec_items b.links))) n) → Linked b k n o
link_read b k n x r o h e read =
    let at = read_ok b k x r h e in
    let m : x.first + x.count - x.first ≡ x.count = omega arith in
    let q : o ≡ slice_get (entry (vec_items b.links) x).parents n = read at.3 ∙ ap (λ (c : ℕ). slice_get (take c (drop x.first (vec_items b.links))) n) m in
    parent_linked b k n x o at q

pub link_none : (b : Book) (k n : ℕ) (r : Result Row Denial) → Read b k r → None ≡ result_ok r → Linked b k n None
link_none b k n (Ok x) h e = absurd (none-some x e)
link_none b k n (Err d) h e = (ap (reading_parent n) h.0, ap (λ (e : Entry). get_or e.parents n no_id) h.1)

alter_rows : (f : Entry → Entry) (links : List ObjectId) (rows : List Row) (used k : ℕ) (d : Row) (m : Metadata) → entry links (meta_row (get_or rows k d) m) ≡ f (entry links (get_or rows k d)) → k < used → used ≤ length rows → map (entry links) (take used (set rows k (meta_row (get_or rows k d) m))) ≡ altered f (map (entry links) (take used rows)) k
alter_rows f links [] used k d m e l h = absurd (omega arith)
alter_rows f links (r ∷ rs) zero k d m e l h = absurd (omega arith)
alter_rows f links (r ∷ rs) (suc u) zero d m e l h = ap (λ (x : Entry). x ∷ map (entry links) (take u rs)) e
alter_rows f links (r ∷ rs) (suc u) (suc k) d m e l h = ap (λ (es : List Entry). entry links r ∷ es) (alter_rows f links rs u k d m e (omega arith) (omega arith))

-- two changes that do the same to the entry at `k`
pub altered_same : (f g : Entry → Entry) (es : List Entry) (k : ℕ) (e : Entry) → slice_get es k ≡ Some e → f e ≡ g e → altered f es k ≡ altered g es k
altered_same f g [] k e s h = refl
altered_same f g (x ∷ es) zero e s h = let q : x ≡ e = cc in ap (λ (y : Entry). y ∷ es) (ap f q ∙ h ∙ ap g (sym q))
altered_same f g (x ∷ es) (suc k) e s h = ap (λ (ys : List Entry). x ∷ ys) (altered_same f g es k e s h)

-- no entry stands past the last
altered_none : (f : Entry → Entry) (es : List Entry) (k : ℕ) → slice_get es k ≡ None → es ≡ altered f es k
altered_none f [] k h = refl
altered_none f (e ∷ es) zero h = let z : ◌≡◌ {A = ℕ} 0 1 = cc in absurd (omega arith)
altered_none f (e ∷ es) (suc k) h = ap (λ (xs : List Entry). e ∷ xs) (altered_none f es k h)

-- the book with other metadata at `k`
abbrev pub with_meta : Book → ℕ → Row → Metadata → Model
with_meta b k r m = record { entries = map (entry (vec_items b.links)) (take b.used (set (vec_items b.rows) k (meta_row r m))); linked = b.linked; most_rows = b.limit; most_links = length (vec_items b.links); slots = length (set (vec_items b.rows) k (meta_row r m)); stopped = b.stopped }

-- the row was read as `y` before it was lent as `x`
pub altered_in : (f : Entry → Entry) (b : Book) (k : ℕ) (y x : Row) (m : Metadata) → entry (vec_items b.links) (meta_row y m) ≡ f (entry (vec_items b.links) y) → y ≡ get_or (vec_items b.rows) k y → x ≡ get_or (vec_items b.rows) k x → k < b.used → with_meta b k x m ≡ holding (model b) (altered f (model b).entries k)
altered_in f b k y x m e was is l =
    let links = vec_items b.links in
    let rows = vec_items b.rows in
    let here : get_or (vec_items b.rows) k x ≡ y = get_or_default (vec_items b.rows) k x y (omega arith) ∙ sym was in
    let es : map (entry (vec_items b.links)) (take b.used (set (vec_items b.rows) k (meta_row x m))) ≡ altered f (model b).entries k =
    ap (λ (r : Row). map (entry links) (take b.used (set rows k (meta_row r m)))) is
    ∙ alter_rows f links rows b.used k x m (ap (λ (r : Row). entry links (meta_row r m)) here ∙ e ∙ ap (λ (r : Row). f (entry links r)) (sym here)) l (omega arith) in
    let n : length (set (vec_items b.rows) k (meta_row x m)) ≡ length (vec_items b.rows) = simp length-set in
    λ i. record { entries = es i; linked = b.linked; most_rows = b.limit; most_links = length (vec_items b.links); slots = n i; stopped = b.stopped }

read_some : (o : Option Entry) (d : Metadata) → ◌≡◌ {A = Result Metadata Denial} (Ok d) (reading metadata_of o) → (e : Entry) × (o ≡ Some e) × (metadata_of e ≡ d)
read_some None d h = let z : ◌≡◌ {A = ℕ} 0 1 = cc in absurd (omega arith)
read_some (Some e) d h = (e, refl, let q : metadata_of e ≡ d = cc in q)

read_none : (o : Option Entry) (d : Denial) → ◌≡◌ {A = Result Metadata Denial} (Err d) (reading metadata_of o) → o ≡ None
read_none None d h = refl
read_none (Some e) d h = let z : ◌≡◌ {A = ℕ} 0 1 = cc in absurd (omega arith)

-- a write of what the walks keep of a row, after it was read
module _ (m : Model) (k : ℕ) where
  pub read_within : (d : Metadata) → ◌≡◌ {A = Result Metadata Denial} (Ok d) (reading metadata_of (slice_get m.entries k)) → k < length m.entries
  read_within d h = let r = read_some (slice_get m.entries k) d h in slice_get_within m.entries k r.0 r.1

  pub rewritten : {X : Type 0} (f : Entry → Entry) (g : Entry → X) (d n : Metadata) (v : X) → ◌≡◌ {A = Result Metadata Denial} (Ok d) (reading metadata_of (slice_get m.entries k)) → ((e : Entry) → metadata_of e ≡ d → (rewrite n e ≡ f e) × (v ≡ g e)) → (written m k n ≡ holding m (altered f m.entries k)) × (◌≡◌ {A = Result X Denial} (Ok v) (reading g (slice_get m.entries k)))
  rewritten f g d n v h same =
      let r = read_some (slice_get m.entries k) d h in
      let s = same r.0 r.2 in
      (ap (holding m) (altered_same (rewrite n) f m.entries k r.0 r.1 s.0), ap Ok s.1 ∙ sym (ap (reading g) r.1))

  pub unwritten : (f : Entry → Entry) (d : Denial) → ◌≡◌ {A = Result Metadata Denial} (Err d) (reading metadata_of (slice_get m.entries k)) → m ≡ holding m (altered f m.entries k)
  unwritten f d h = ap (holding m) (altered_none f m.entries k (read_none (slice_get m.entries k) d h))
