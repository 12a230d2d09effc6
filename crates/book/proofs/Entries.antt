-- What a write to rows and links does to the entries.
use Rattle.std.proofs.Common.{◌≡◌, ℕ, suc, ◌+◌, ◌<◌, ◌≤◌, List, [], ◌∷◌, ◌++◌, map, length, get_or, take, drop, set, Some, None, sym, refl, ap, ◌∙◌, suc-le-suc, arith}
use lib.Seq.{paste}
use Rattle.std.proofs.lemmas.List.{append_assoc, drop-take, take-take, take_at, drop_at, length-take-le, take_all, get_or-take}
use Rattle.std.proofs.lemmas.List.Edits.{take-paste, paste_more}
use Rattle.std.proofs.lemmas.Option.{slice_get-get_or}
use Rattle.std.specs.List.{slice_get}
use Rattle.source.specs.declared.ObjectId.{ObjectId}
use Rattle.book.specs.declared.types.Row.{Row}
use Rattle.book.specs.Rows.{Entry, entry, Inside}

part : (f c : ℕ) (xs : List ObjectId) → take c (drop f xs) ≡ drop f (take (f + c) xs)
part f c xs = sym (drop-take f c xs)

-- links that agree below `n` give a row below `n` the same parents
same_part : (n f c : ℕ) (xs ys : List ObjectId) → f + c ≤ n → take n xs ≡ take n ys → take c (drop f xs) ≡ take c (drop f ys)
same_part n f c xs ys h e =
    part f c xs
    ∙ (ap (drop f) (sym (take-take (f + c) n xs h) ∙ (ap (take (f + c)) e ∙ take-take (f + c) n ys h))
    ∙ sym (part f c ys))

pub same_entry : (n : ℕ) (xs ys : List ObjectId) (r : Row) → r.first + r.count ≤ n → take n xs ≡ take n ys → entry xs r ≡ entry ys r
same_entry n xs ys r h e =
    ap (λ (ps : List ObjectId). record { id = r.id; date = r.date; parents = ps; original = r.metadata.original_ttl; ttl = r.metadata.ttl; flags = r.metadata.flags.bits }) (same_part n r.first r.count xs ys h e)

pub same_entries : (n : ℕ) (xs ys : List ObjectId) (rs : List Row) → ((k : ℕ) (d : Row) → k < length rs → (get_or rs k d).first + (get_or rs k d).count ≤ n) → take n xs ≡ take n ys → map (entry xs) rs ≡ map (entry ys) rs
same_entries n xs ys [] h e = refl
same_entries n xs ys (r ∷ rs) h e =
    let here : r.first + r.count ≤ n = h 0 r (omega arith) in
    let a : entry xs r ≡ entry ys r = same_entry n xs ys r here e in
    let b : map (entry xs) rs ≡ map (entry ys) rs = same_entries n xs ys rs (λ k d l. h (suc k) d (suc-le-suc l)) e in
    cc

-- the rows in use, of which each lies inside
pub inside_front : (rows : List Row) (used linked : ℕ) → used ≤ length rows → Inside rows used linked → (k : ℕ) (d : Row) → k < length (take used rows) → (get_or (take used rows) k d).first + (get_or (take used rows) k d).count ≤ linked
inside_front rows used linked h ins k d l =
    let u : k < used = omega (arith, length-take-le used rows h) in
    rw get_or-take (ins k d u)

take_below : (xs ps : List ObjectId) (at n : ℕ) → at ≤ length xs → take at (paste xs at ps n) ≡ take at xs
take_below xs ps at n h = ap (take at) (append_assoc (take at xs) (take n ps) (drop (at + n) xs)) ∙ take_at (take at xs) _ at (length-take-le at xs h)

pasted : (xs ps : List ObjectId) (at : ℕ) → at ≤ length xs → take (length ps) (drop at (paste xs at ps (length ps))) ≡ ps
pasted xs ps at h =
    part at (length ps) (paste xs at ps (length ps))
    ∙ (ap (drop at) (take-paste xs at ps (length ps) h (omega arith))
    ∙ (drop_at (take at xs) (take (length ps) ps) at (length-take-le at xs h)
    ∙ take_all (length ps) ps (omega arith)))

-- the entries over the new links, where those of the rows before are the same
pub entries_pasted : (rows : List Row) (links : List ObjectId) (used linked : ℕ) (r : Row) (ps : List ObjectId) → used ≤ length rows → linked ≤ length links → Inside rows used linked → r.first ≡ linked → r.count ≡ length ps → map (entry (paste links linked ps (length ps))) (take used rows) ++ entry (paste links linked ps (length ps)) r ∷ [] ≡ map (entry links) (take used rows) ++ record { id = r.id; date = r.date; parents = ps; original = r.metadata.original_ttl; ttl = r.metadata.ttl; flags = r.metadata.flags.bits } ∷ []
entries_pasted rows links used linked r ps u l ins f n =
    let new : List ObjectId = paste links linked ps (length ps) in
    let e : map (entry new) (take used rows) ≡ map (entry links) (take used rows) = same_entries linked new links (take used rows) (inside_front rows used linked u ins) (take_below links ps linked (length ps) l) in
    let q : take r.count (drop r.first new) ≡ ps = rw (f, n) (pasted links ps linked l) in
    ap (λ (es : List Entry). es ++ entry new r ∷ []) e
    ∙ ap (λ (qs : List ObjectId). map (entry links) (take used rows) ++ record { id = r.id; date = r.date; parents = qs; original = r.metadata.original_ttl; ttl = r.metadata.ttl; flags = r.metadata.flags.bits } ∷ []) q

-- one more parent in its place
pub paste_step : (d xs ps : List ObjectId) (at k : ℕ) (p : ObjectId) → xs ≡ paste d at ps k → slice_get ps k ≡ Some p → at + k < length d → k < length ps → set xs (at + k) p ≡ paste d at ps (k + 1)
paste_step d xs ps at k p e s h l =
    let n : slice_get ps k ≡ Some (get_or ps k p) = slice_get-get_or ps k p l in
    let q : get_or ps k p ≡ p = cc in
    ap (λ (ys : List ObjectId). set ys (at + k) p) e ∙ (ap (set (paste d at ps k) (at + k)) (sym q) ∙ paste_more d at ps k p h l)

pub no_gap : (ps : List ObjectId) (k : ℕ) (d : ObjectId) → slice_get ps k ≡ None → k < length ps → ⊥
no_gap ps k d s l =
    let n : slice_get ps k ≡ Some (get_or ps k d) = slice_get-get_or ps k d l in
    let z : ◌≡◌ {A = ℕ} 0 1 = cc in
    omega arith
