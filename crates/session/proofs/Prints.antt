-- What is printed of ids and rows.
use Rattle.std.proofs.Common.{◌≡◌, ℕ, zero, suc, ◌+◌, ◌<◌, ◌≤◌, List, [], ◌∷◌, ◌++◌, map, length, get_or, drop, Ok, Err, Result, sym, refl, ap, ◌∙◌, subst, arith}
use Rattle.std.specs.List.{slice_get}
use Rattle.std.proofs.lemmas.List.{at_drop_more, at_drop_all, append_assoc, append-nil}
use Rattle.source.specs.declared.ObjectId.{ObjectId}
use Rattle.source.specs.Hex.{hex_of}
use Rattle.book.specs.declared.types.Denial.{Denial}
use Rattle.book.specs.Denials
use Rattle.book.specs.Model.{reading}
use Rattle.book.specs.Rows.{Entry}
use Rattle.model.specs.declared.Call.{Call}
use Rattle.model.specs.declared.Event.{Event}
use Rattle.model.specs.declared.Algorithm.{Algorithm}
use Rattle.model.specs.Book.{Row, Walk}
use Rattle.negotiate.specs.Numbers.{number_of}
use Rattle.store.specs.Stores.{store_of}
use Rattle.session.specs.Sessions.{Whole}
use Rattle.model.specs.View.{view_row}
use Rattle.session.specs.Printed.{denied, id_said, line_of, lines_of, titled, Tells}

-- what is printed where a read of an id gave this
abbrev pub read_said : Result ObjectId Denial → List ℕ
read_said (Ok i) = hex_of i.bytes
read_said (Err d) = denied (Denials.number_of d)

pub id_read : (es : List Entry) (k : ℕ) → id_said (slice_get (map view_row es) k) ≡ read_said (reading (λ (e : Entry). e.id) (slice_get es k))
id_read [] k = refl
id_read (e ∷ es) zero = refl
id_read (e ∷ es) (suc k) = id_read es k

-- a line more: the text t was behind by the line that v has
pub lines_more : (rows : List Row) (i : ℕ) (es : List Event) (d : Event) (t v whole : List ℕ) → i < length es
    → v ≡ t ++ line_of rows (i + 1) (get_or es i d).asked (get_or es i d).gave → t ++ lines_of rows (i + 1) (drop i es) ≡ whole → v ++ lines_of rows (i + 1 + 1) (drop (i + 1) es) ≡ whole
lines_more rows i es d t v whole l e h =
    let on : suc (i + 1) ≡ i + 1 + 1 = omega arith in
    let rest = lines_of rows (i + 1 + 1) (drop (i + 1) es) in
    let here = line_of rows (i + 1) (get_or es i d).asked (get_or es i d).gave in
    let at : lines_of rows (i + 1) (drop i es) ≡ here ++ rest =
    at_drop_more (lines_of rows (i + 1)) es i d l ∙ ap {B = List ℕ} (λ n. here ++ lines_of rows n (drop (i + 1) es)) on in
    ap {B = List ℕ} (λ x. x ++ rest) e ∙ append_assoc t here rest ∙ ap {B = List ℕ} (λ x. t ++ x) (sym at) ∙ h

-- all lines
pub lines_all : (rows : List Row) (n i : ℕ) (es : List Event) (t whole : List ℕ) → length es ≤ i → t ++ lines_of rows n (drop i es) ≡ whole → t ≡ whole
lines_all rows n i es t whole l h = sym (append-nil t) ∙ ap {B = List ℕ} (λ x. t ++ x) (sym (at_drop_all (lines_of rows n) es i l)) ∙ h

-- a walk told: its source is the store, its calls are the input's, and its lines stand under its number
pub tells : (n : Algorithm) (store bytes : List ℕ) (calls fields : List Call) (events slice : List Event) (left : Walk) (rows : List Row) (number : ℕ) (said lines out : List ℕ)
    → bytes ≡ store → calls ≡ fields → slice ≡ events → rows ≡ left.rows → number ≡ number_of n → Whole n (store_of bytes) 1024 2048 calls events left
    → said ≡ lines_of rows 1 slice → lines ≡ said → out ≡ titled number lines → Tells n (store_of store) fields out
tells n store bytes calls fields events slice left rows number said lines out eb ec es er en w el es' e = record {
  events = events;
  left = left;
  whole = subst (λ (b : List ℕ). Whole n (store_of b) 1024 2048 fields events left) eb (subst (λ (cs : List Call). Whole n (store_of bytes) 1024 2048 cs events left) ec w);
  text = e ∙ (λ i. titled (en i) ((es' ∙ el ∙ (λ j. lines_of (er j) 1 (es j))) i));
}
