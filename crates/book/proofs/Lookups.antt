-- A lookup, way by way.
use Rattle.std.proofs.Common.{◌≡◌, ℕ, ◌+◌, ◌<◌, ◌≤◌, Bool, true, false, cond, ◌||◌, ltb, List, [], ◌∷◌, ◌++◌, map, length, take, drop, ℤ, Some, None, Ok, Err, vec_items, vec_len, Option, Result, sym, refl, ap, ◌∙◌, arith}
use lib.Seq.{paste}
use Rattle.std.proofs.lemmas.List.Edits.{length-paste}
use Rattle.std.proofs.lemmas.Bool.{cond-true, cond-false, lt-ltb, le-ltb, ltb-true, ltb-false}
use Rattle.std.specs.Result.{is_err}
use Rattle.source.specs.declared.ObjectId.{ObjectId}
use Rattle.book.specs.declared.types.Denial.{Denial}
use Rattle.book.specs.declared.types.Denial.TheVariants.{RowsFull, LinksFull}
use Rattle.book.specs.declared.book.Book.{Book}
use Rattle.source.specs.Ids.{place}
use Rattle.source.specs.Meaning.{Meaning, absent, failing, commit, date_of, count_of, parents_of}
use Rattle.book.specs.Rows.{Entry, entry, taken_row}
use Rattle.book.specs.Model.{Model, Looked, model, halted, stopping, fresh, entered, enter, query, found, looked_up, ids_of, room_for, Copied, Inserted}
use Rattle.book.proofs.Entries.{entries_pasted}
use Rattle.book.proofs.Heads.{entries_long}

pub commit_is : (m : Meaning) (d : ℤ) → Some d ≡ date_of m → m ≡ commit d (parents_of m)
commit_is absent d e = let z : ◌≡◌ {A = ℕ} 0 1 = cc in absurd (omega arith)
commit_is (failing f) d e = let z : ◌≡◌ {A = ℕ} 0 1 = cc in absurd (omega arith)
commit_is (commit d' ps) d e = let q : d' ≡ d = cc in ap (λ (x : ℤ). commit x ps) q

pub count_is : (m : Meaning) (n : ℕ) → Some n ≡ count_of m → n ≡ length (parents_of m)
count_is absent n e = let z : ◌≡◌ {A = ℕ} 0 1 = cc in absurd (omega arith)
count_is (failing f) n e = let z : ◌≡◌ {A = ℕ} 0 1 = cc in absurd (omega arith)
count_is (commit d ps) n e = cc

or_true : (b : Bool) → (b || true) ≡ true
or_true true = refl
or_true false = refl

or_false : (b : Bool) → (b || false) ≡ b
or_false true = refl
or_false false = refl

-- a commit comes in where there is room, and is denied where there is none
denied_by : (m : Model) (e : Entry) (x : Denial) (p q : Bool) → ◌≡◌ {A = Result (Unit {0}) Denial} (Err x) (cond p (cond q (Err LinksFull) (Ok tt)) (Err RowsFull)) → ◌≡◌ {A = Looked} (cond p (cond q (record { book = halted m; answer = Err LinksFull }) (record { book = entered m e; answer = Ok (Some (length m.entries)) })) (record { book = halted m; answer = Err RowsFull })) (record { book = halted m; answer = Err x })
denied_by m e x true true h = let w : LinksFull ≡ x = cc in λ i. record { book = halted m; answer = Err (w i) }
denied_by m e x true false h = let z : ◌≡◌ {A = ℕ} 0 1 = cc in absurd (omega arith)
denied_by m e x false q h = let w : RowsFull ≡ x = cc in λ i. record { book = halted m; answer = Err (w i) }

let_in : (p q : Bool) → ◌≡◌ {A = Result (Unit {0}) Denial} (Ok tt) (cond p (cond q (Err LinksFull) (Ok tt)) (Err RowsFull)) → (p ≡ true) × (q ≡ false)
let_in true true h = let z : ◌≡◌ {A = ℕ} 0 1 = cc in absurd (omega arith)
let_in true false h = (refl, refl)
let_in false q h = let z : ◌≡◌ {A = ℕ} 0 1 = cc in absurd (omega arith)

-- what the way in asks of a book
abbrev pub Room : Book → ℕ → Type 0
Room b n = (b.used < b.limit) × (b.linked + n ≤ length (vec_items b.links))

pub room : (b : Book) (n : ℕ) → Ok tt ≡ room_for b.used b.limit b.linked (vec_len b.links) n → Room b n
room b n h =
    let r = let_in (ltb b.used b.limit) (ltb (vec_len b.links) (b.linked + n)) h in
    (ltb-true b.used b.limit r.0, omega (arith, ltb-false (vec_len b.links) (b.linked + n) r.1, b.links.ok.0))

module _ (b : Book) (meaning : ObjectId → Meaning) (i : ObjectId) (d : ℤ) (n : ℕ) (dated : Some d ≡ date_of (meaning i)) (counted : Some n ≡ count_of (meaning i)) where
  abbrev ps : List ObjectId
  ps = parents_of (meaning i)

  enters : query (model b) i (meaning i) ≡ enter (model b) (fresh i d ps)
  enters = ap (λ (m : Meaning). query (model b) i m) (commit_is (meaning i) d dated)

  pub look_denied : (x : Denial) → Err x ≡ room_for b.used b.limit b.linked (vec_len b.links) n → query (model b) i (meaning i) ≡ record { book = halted (model b); answer = Err x }
  look_denied x h =
      let long : vec_len b.links ≡ length (vec_items b.links) = omega (arith, b.links.ok.0) in
      let k : room_for b.used b.limit b.linked (vec_len b.links) n ≡ room_for (length (model b).entries) b.limit b.linked (length (vec_items b.links)) (length ps) =
      ap (λ (u : ℕ). room_for u b.limit b.linked (vec_len b.links) n) (sym (entries_long b))
      ∙ ap (λ (v : ℕ). room_for (length (model b).entries) b.limit b.linked v n) long
      ∙ ap (room_for (length (model b).entries) b.limit b.linked (length (vec_items b.links))) (count_is (meaning i) n counted) in
      enters ∙ denied_by (model b) (fresh i d ps) x (ltb (length (model b).entries) b.limit) (ltb (length (vec_items b.links)) (b.linked + length ps)) (h ∙ k)

  pub look_in : Room b n → query (model b) i (meaning i) ≡ record { book = entered (model b) (fresh i d ps); answer = Ok (Some b.used) }
  look_in r =
      let t : ltb (length (model b).entries) b.limit ≡ true = lt-ltb (length (model b).entries) b.limit (omega (arith, entries_long b)) in
      let u : ltb (length (vec_items b.links)) (b.linked + length ps) ≡ false = le-ltb (length (vec_items b.links)) (b.linked + length ps) (omega (arith, count_is (meaning i) n counted)) in
      enters ∙ (cond-true _ _ _ t ∙ (cond-false _ _ _ u ∙ ap (λ (k : ℕ). record { book = entered (model b) (fresh i d ps); answer = Ok (Some k) }) (entries_long b)))

same_model : (e e' : List Entry) (l l' r r' k k' n n' : ℕ) (s s' : Bool) → e ≡ e' → l ≡ l' → r ≡ r' → k ≡ k' → n ≡ n' → s ≡ s' → ◌≡◌ {A = Model} (record { entries = e; linked = l; most_rows = r; most_links = k; slots = n; stopped = s }) (record { entries = e'; linked = l'; most_rows = r'; most_links = k'; slots = n'; stopped = s' })
same_model e e' l l' r r' k k' n n' s s' p q t u v w = cc

-- the book after the row came in, from the book `c` after the parents did
pub model_in : (b c e : Book) (ps : List ObjectId) (i : ObjectId) (d : ℤ) (n : ℕ) → Copied b c ps n → Inserted c e i d n → n ≡ length ps → b.linked + n ≤ length (vec_items b.links) → model e ≡ entered (model b) (fresh i d ps)
model_in b c e ps i d n copied inserted count fits =
    let l : vec_items e.links ≡ paste (vec_items b.links) b.linked ps (length ps) = inserted.links ∙ (copied.links ∙ ap (paste (vec_items b.links) b.linked ps) count) in
    let a : map (entry (vec_items e.links)) (take e.used (vec_items e.rows)) ≡ map (entry (vec_items e.links)) (take c.used (vec_items c.rows)) ++ fresh i d (take n (drop c.linked (vec_items e.links))) ∷ [] = inserted.entries (vec_items e.links) in
    let q : map (entry (vec_items e.links)) (take c.used (vec_items c.rows)) ++ fresh i d (take n (drop c.linked (vec_items e.links))) ∷ [] ≡ map (entry (paste (vec_items b.links) b.linked ps (length ps))) (take b.used (vec_items b.rows)) ++ fresh i d (take (length ps) (drop b.linked (paste (vec_items b.links) b.linked ps (length ps)))) ∷ [] = rw (l, copied.rows, copied.used, copied.linked, count) refl in
    let z : map (entry (paste (vec_items b.links) b.linked ps (length ps))) (take b.used (vec_items b.rows)) ++ fresh i d (take (length ps) (drop b.linked (paste (vec_items b.links) b.linked ps (length ps)))) ∷ [] ≡ map (entry (vec_items b.links)) (take b.used (vec_items b.rows)) ++ fresh i d ps ∷ [] = entries_pasted (vec_items b.rows) (vec_items b.links) b.used b.linked (taken_row i d b.linked (length ps) 0 0) ps (omega arith) (omega arith) b.inside refl refl in
    same_model _ _ _ _ _ _ _ _ _ _ _ _ (a ∙ (q ∙ z)) (omega (arith, inserted.linked, copied.linked)) (inserted.limit ∙ copied.limit) (ap length inserted.links ∙ (ap length copied.links ∙ length-paste (vec_items b.links) b.linked ps n fits (omega arith))) (inserted.slots ∙ ap length copied.rows) (inserted.stopped ∙ copied.stopped)

pub stopped_on : (m : Model) (r : Result (Option ℕ) Denial) → ◌≡◌ {A = Model} (record { entries = m.entries; linked = m.linked; most_rows = m.most_rows; most_links = m.most_links; slots = m.slots; stopped = m.stopped || is_err r }) (stopping r m)
stopped_on m (Ok o) = λ i. record { entries = m.entries; linked = m.linked; most_rows = m.most_rows; most_links = m.most_links; slots = m.slots; stopped = or_false m.stopped i }
stopped_on m (Err d) = λ i. record { entries = m.entries; linked = m.linked; most_rows = m.most_rows; most_links = m.most_links; slots = m.slots; stopped = or_true m.stopped i }

pub found_here : (m : Model) (meaning : ObjectId → Meaning) (i : ObjectId) → None ≡ place i (ids_of m) 0 → looked_up meaning i m ≡ query m i (meaning i)
found_here m meaning i none = ap (λ (o : Option ℕ). found o m (query m i (meaning i))) (sym none)
