-- The book's equations as steps of the model.
use Rattle.std.proofs.Common.{◌≡◌, ℕ, zero, suc, ◌+◌, ◌<◌, ◌≤◌, Bool, true, false, cond, ltb, List, [], ◌∷◌, map, length, get_or, set, ℤ, Some, None, Ok, Err, Option, Result, sym, refl, ap, ◌∙◌, subst, arith}
use mathlib.Core.Option as mo
use mathlib.Core.Option.{none, some}
use lib.Bits.{bit_or}
use Rattle.std.proofs.lemmas.List.{length-map, map_push}
use Rattle.std.proofs.lemmas.Bool.{ltb-true, ltb-false}
use Rattle.source.specs.declared.ObjectId.{ObjectId}
use Rattle.book.specs.declared.types.Denial.{Denial}
use Rattle.book.specs.declared.types.Denial.TheVariants as denial
use Rattle.source.specs.Ids
use Rattle.source.specs.Ids.{is_same_id}
use Rattle.source.specs.Meaning.{Meaning, absent, failing, commit}
use Rattle.book.specs.Rows
use Rattle.book.specs.Model.{Model, looked_up, query, fresh, raised, flagged, no_entry}
use Rattle.book.specs.Model as hm
use Rattle.model.specs.Book.{Waits, Flags, join, meets, Row, no_row, reflag, Walk, flags_at, change, add_row, find, bump, Source}
use Rattle.model.specs.Steps.{found, Lookup, held, lacks, fails, full, short, adds}
use Rattle.book.specs.Bits.{has}
use Rattle.model.specs.Parts
use Rattle.model.specs.View.{unpack, view_row, walk_of}

pub view_at : (es : List Rows.Entry) (k : ℕ) → get_or (map view_row es) k no_row ≡ view_row (get_or es k no_entry)
view_at [] k = refl
view_at (e ∷ es) zero = refl
view_at (e ∷ es) (suc k) = view_at es k

-- the place of an id among the entries is the row that it finds
abbrev from : ℕ → mo.Option ℕ → Option ℕ
from n none = None
from n (some k) = Some (n + k)

from_bump : (n : ℕ) (o : mo.Option ℕ) → from (n + 1) o ≡ from n (bump o)
from_bump n none = refl
from_bump n (some k) = ap (λ (m : ℕ). Some m) (omega arith)

place_find : (i : ObjectId) (es : List Rows.Entry) (n : ℕ) → Ids.place i (map (λ (e : Rows.Entry). e.id) es) n ≡ from n (find i (map view_row es))
place_find i [] n = refl
place_find i (e ∷ es) n = go (is_same_id e.id i) (place_find i es (n + 1))
  where
    go : (b : Bool) → Ids.place i (map (λ (x : Rows.Entry). x.id) es) (n + 1) ≡ from (n + 1) (find i (map view_row es))
        → cond b (Some n) (Ids.place i (map (λ (x : Rows.Entry). x.id) es) (n + 1)) ≡ from n (cond b (some 0) (bump (find i (map view_row es))))
    go true ih = ap (λ (m : ℕ). Some m) (omega arith)
    go false ih = ih ∙ from_bump n (find i (map view_row es))

pub find_none : (i : ObjectId) (es : List Rows.Entry) → Ids.place i (map (λ (e : Rows.Entry). e.id) es) 0 ≡ None → find i (map view_row es) ≡ none
find_none i es h = go (find i (map view_row es)) (sym (place_find i es 0) ∙ h)
  where
    go : (o : mo.Option ℕ) → from 0 o ≡ None → o ≡ none
    go none e = refl
    go (some k) e = let z : ◌≡◌ {A = ℕ} 0 1 = cc in absurd (omega arith)

pub find_some : (i : ObjectId) (es : List Rows.Entry) (k : ℕ) → Ids.place i (map (λ (e : Rows.Entry). e.id) es) 0 ≡ Some k → find i (map view_row es) ≡ some k
find_some i es k h = go (find i (map view_row es)) (sym (place_find i es 0) ∙ h)
  where
    go : (o : mo.Option ℕ) → from 0 o ≡ Some k → o ≡ some k
    go none e = let z : ◌≡◌ {A = ℕ} 0 1 = cc in absurd (omega arith)
    go (some j) e = let z : 0 + j ≡ k = cc in ap {B = mo.Option ℕ} some (let y : j ≡ k = omega (arith, z) in y)

abbrev pub Looks : Source → Walk → ObjectId → Walk → Result (Option ℕ) Denial → Type 0
Looks = Parts.Looks

module _ (src : Source) (m : Model) (q : Waits) (c : ℕ) (i : ObjectId) where
  abbrev s₀ : Walk
  s₀ = walk_of m q c

  abbrev Says : hm.Looked → Type 0
  Says l = Looks src s₀ i (walk_of l.book q c) l.answer

  enters : find i s₀.rows ≡ none → (d : ℤ) (ps : List ObjectId) → src i ≡ commit d ps → Says (hm.enter m (fresh i d ps))
  enters e d ps x = go (ltb (length m.entries) m.most_rows) refl (ltb m.most_links (m.linked + length ps)) refl
    where
      long : length (map view_row m.entries) ≡ length m.entries
      long = length-map m.entries view_row

      on : length m.entries < m.most_rows → m.linked + length ps ≤ m.most_links → Lookup src (walk_of m q c) i (found (length m.entries) (walk_of (hm.entered m (fresh i d ps)) q c))
      on l f = subst (λ (rs : List Row). Lookup src (walk_of m q c) i (found (length m.entries) (record { rows = rs; links = m.linked + length ps; most_rows = m.most_rows; most_links = m.most_links; queue = q; count = c; stopped = m.stopped })))
          (sym (map_push view_row m.entries (fresh i d ps)))
          (subst (λ (n : ℕ). Lookup src (walk_of m q c) i (found n (add_row (walk_of m q c) i d ps))) long (adds d ps e x (omega (arith, l, long)) f))

      go : (a : Bool) → ltb (length m.entries) m.most_rows ≡ a → (b : Bool) → ltb m.most_links (m.linked + length ps) ≡ b
          → Says (cond a (cond b (record { book = hm.halted m; answer = Err denial.LinksFull }) (record { book = hm.entered m (fresh i d ps); answer = Ok (Some (length m.entries)) })) (record { book = hm.halted m; answer = Err denial.RowsFull }))
      go false ea b eb = (full d ps e x (omega (arith, long, ltb-false (length m.entries) m.most_rows ea)), refl)
      go true ea true eb = (short d ps e x (omega (arith, long, ltb-true (length m.entries) m.most_rows ea)) (ltb-true m.most_links (m.linked + length ps) eb), refl)
      go true ea false eb = on (ltb-true (length m.entries) m.most_rows ea) (omega (arith, ltb-false m.most_links (m.linked + length ps) eb))

  pub looks : Says (looked_up src i m)
  looks = go (Ids.place i (map (λ (e : Rows.Entry). e.id) m.entries) 0) refl
    where
      ask : find i (map view_row m.entries) ≡ none → (a : Meaning) → src i ≡ a → Looks src (walk_of m q c) i (walk_of (query m i a).book q c) (query m i a).answer
      ask e absent x = (lacks e x, refl)
      ask e (failing f) x = (fails f e x, refl)
      ask e (commit d ps) x = enters e d ps x

      go : (o : Option ℕ) → Ids.place i (map (λ (e : Rows.Entry). e.id) m.entries) 0 ≡ o → Looks src (walk_of m q c) i (walk_of (hm.found o m (query m i (src i))).book q c) (hm.found o m (query m i (src i))).answer
      go None e = ask (find_none i m.entries e) (src i) refl
      go (Some k) e = held k (find_some i m.entries k e)

-- the same, of a book and an answer that are said to be these
pub looks_at : (src : Source) (m m' : Model) (q : Waits) (c : ℕ) (i : ObjectId) (a : Result (Option ℕ) Denial) → m' ≡ (looked_up src i m).book → a ≡ (looked_up src i m).answer → Looks src (walk_of m q c) i (walk_of m' q c) a
looks_at src m m' q c i a e f = subst (λ (x : Model). Looks src (walk_of m q c) i (walk_of x q c) a) (sym e) (subst (λ (y : Result (Option ℕ) Denial). Looks src (walk_of m q c) i (walk_of (looked_up src i m).book q c) y) (sym f) (looks src m q c i))

-- flags that are set
abbrev pub Law : ℕ → Flags → ℕ → Type 0
Law mask M f = (unpack (bit_or f mask) ≡ join M (unpack f)) × (has f mask ≡ meets M (unpack f))

raised_rows : (es : List Rows.Entry) (k mask : ℕ) (M : Flags) → unpack (bit_or (get_or es k no_entry).flags mask) ≡ join M (unpack (get_or es k no_entry).flags)
    → map view_row (raised es k mask) ≡ set (map view_row es) k (reflag (get_or (map view_row es) k no_row) (join M (get_or (map view_row es) k no_row).flags))
raised_rows [] k mask M e = refl
raised_rows (x ∷ es) zero mask M e = ap {B = List Row} (λ f. record { id = x.id; date = x.date; parents = x.parents; flags = f; original = x.original; ttl = x.ttl } ∷ map view_row es) e
raised_rows (x ∷ es) (suc k) mask M e = ap {B = List Row} (λ rs. view_row x ∷ rs) (raised_rows es k mask M e)

pub flag_view : (m m' : Model) (q q' : Waits) (c c' k mask : ℕ) (M : Flags) → m' ≡ flagged m k mask → Law mask M (get_or m.entries k no_entry).flags
    → walk_of m' q' c' ≡ change (walk_of m q c) k (join M (flags_at (walk_of m q c) k)) q' c'
flag_view m m' q q' c c' k mask M e l = ap (λ (x : Model). walk_of x q' c') e
    ∙ ap (λ (rs : List Row). record { rows = rs; links = m.linked; most_rows = m.most_rows; most_links = m.most_links; queue = q'; count = c'; stopped = m.stopped }) (raised_rows m.entries k mask M l.0)

pub flags_view : (m : Model) (q : Waits) (c k : ℕ) → flags_at (walk_of m q c) k ≡ unpack (get_or m.entries k no_entry).flags
flags_view m q c k = ap (λ (r : Row). r.flags) (view_at m.entries k)
