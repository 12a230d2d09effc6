-- The parts' equations in the words of the rules.
use Rattle.std.proofs.Common.{Result, ◌≡◌, ℕ, zero, suc, true, eqb, List, [], ◌∷◌, map, get_or, set, Some, None, Ok, Option, sym, refl, ap, ◌∙◌, subst, ⊎_elim, arith}
use mathlib.Core.Option as mo
use Rattle.std.proofs.lemmas.Bool.{or_cases, eqb-true}
use Rattle.std.specs.List.{slice_get}
use Rattle.std.specs.Result.{ResultUnwrapsOrElse}
use Rattle.source.specs.declared.ObjectId.{ObjectId}
use Rattle.source.specs.Ids
use Rattle.book.specs.declared.types.Denial.{Denial}
use Rattle.book.specs.declared.types.Metadata.{Metadata}
use Rattle.book.specs.Rows
use Rattle.book.specs.Rows.{no_id, metadata}
use Rattle.book.specs.Model.{Model, flagged, skipped, altered, renumber, reading, metadata_of, no_entry}
use Rattle.model.specs.Parts.{Looks}
use Rattle.model.specs.Book.{Source, Flags, Row, Walk, Waits, Marks, no_row, made, row, flags_at, change, put, join, drawn, find, place, place_mark}
use Rattle.model.specs.Book as book
use Rattle.model.specs.View.{view_row, unpack, walk_of}
use Rattle.model.proofs.Looks.{Law, flag_view, find_none, find_some}
use Rattle.model.proofs.Masks.{or_seen, or_common, or_popped, or_ref, or_both, or_advertised}
use Rattle.walk.specs.View.{is_mask, row_of, HasMetadata}

-- a flag byte that the walks set
pub mask_law : (m : ℕ) → is_mask m ≡ true → (f : ℕ) → Law m (unpack m) f
mask_law m h f =
    ⊎_elim (at 4 (or_common f)) (λ h4. ⊎_elim (at 8 (or_seen f)) (λ h8. ⊎_elim (at 16 (or_popped f)) (λ h16. ⊎_elim (at 40 (or_ref f)) (λ h40. ⊎_elim (at 12 (or_both f)) (at 72 (or_advertised f))
    (or_cases (eqb m 12) _ h40)) (or_cases (eqb m 40) _ h16)) (or_cases (eqb m 16) _ h8)) (or_cases (eqb m 8) _ h4)) (or_cases (eqb m 4) _ h)
  where
    at : (n : ℕ) → Law n (unpack n) f → eqb m n ≡ true → Law m (unpack m) f
    at n l e = subst (λ (x : ℕ). Law x (unpack x) f) (sym (eqb-true m n e)) l

pub flags_set : (m m' : Model) (q : Waits) (c k mask : ℕ) → is_mask mask ≡ true → m' ≡ flagged m k mask → walk_of m' q c ≡ change (walk_of m q c) k (join (unpack mask) (flags_at (walk_of m q c) k)) q c
flags_set m m' q c k mask h e = flag_view m m' q q c c k mask (unpack mask) e (mask_law mask h (get_or m.entries k no_entry).flags)

-- skip numbers
skip_rows : (es : List Rows.Entry) (k o t : ℕ) → map view_row (altered (renumber o t) es k) ≡ set (map view_row es) k (book.renumber (get_or (map view_row es) k no_row) o t)
skip_rows [] k o t = refl
skip_rows (e ∷ es) zero o t = refl
skip_rows (e ∷ es) (suc k) o t = ap {B = List Row} (λ rs. view_row e ∷ rs) (skip_rows es k o t)

pub skip_set : (m m' : Model) (q : Waits) (c k o t : ℕ) → m' ≡ skipped m k o t → walk_of m' q c ≡ put (walk_of m q c) k (book.renumber (row (walk_of m q c) k) o t) q c
skip_set m m' q c k o t e = ap (λ (x : Model). walk_of x q c) e
    ∙ ap (λ (rs : List Row). record { rows = rs; links = m.linked; most_rows = m.most_rows; most_links = m.most_links; queue = q; count = c; stopped = m.stopped }) (skip_rows m.entries k o t)

pub metadata_is : (D : Metadata → Type 0) (es : List Rows.Entry) (k : ℕ) (r : Result Metadata Denial) (x : Metadata) → ResultUnwrapsOrElse r D x → r ≡ reading metadata_of (slice_get es k)
    → ((m : Metadata) → D m → HasMetadata no_row m) → HasMetadata (get_or (map view_row es) k no_row) x
metadata_is D es k r x h e z = go es k (subst (λ (q : Result Metadata Denial). ResultUnwrapsOrElse q D x) e h)
  where
    go : (es : List Rows.Entry) (k : ℕ) → ResultUnwrapsOrElse (reading metadata_of (slice_get es k)) D x → HasMetadata (get_or (map view_row es) k no_row) x
    go [] k h = z x h
    go (e ∷ es) zero h = rw h (record { original = refl; ttl = refl; flags = refl })
    go (e ∷ es) (suc k) h = go es k h

-- the row of an id
pub find_is : (es : List Rows.Entry) (i : ObjectId) (o : Option ℕ) → o ≡ Ids.place i (map (λ (e : Rows.Entry). e.id) es) 0 → o ≡ row_of (find i (map view_row es))
find_is es i o e = e ∙ go (Ids.place i (map (λ (x : Rows.Entry). x.id) es) 0) refl
  where
    go : (p : Option ℕ) → Ids.place i (map (λ (x : Rows.Entry). x.id) es) 0 ≡ p → p ≡ row_of (find i (map view_row es))
    go None h = sym (ap row_of (find_none i es h))
    go (Some k) h = sym (ap row_of (find_some i es k h))

pub found_none : (o : mo.Option ℕ) → None ≡ row_of o → o ≡ mo.none
found_none mo.none h = refl
found_none (mo.some k) h = let z : ◌≡◌ {A = ℕ} 0 1 = cc in absurd (omega arith)

pub found_some : (o : mo.Option ℕ) (k : ℕ) → Some k ≡ row_of o → o ≡ mo.some k
found_some mo.none k h = let z : ◌≡◌ {A = ℕ} 0 1 = cc in absurd (omega arith)
found_some (mo.some j) k h = let q : j ≡ k = cc in ap {B = mo.Option ℕ} mo.some q

-- a lookup's answer, by what was matched
pub looks_as : (src : Source) (s : Walk) (i : ObjectId) (t : Walk) (o p : Option ℕ) → o ≡ p → Looks src s i t (Ok o) → Looks src s i t (Ok p)
looks_as src s i t o p e l = subst (λ (x : Option ℕ). Looks src s i t (Ok x)) e l
