-- A map of the first pairs that a scan has passed.
use Rattle.std.proofs.Common.{◌≡◌, ℕ, Bool, true, false, cond, List, length, Some, None, Ok, Option, Result, MatchOption, unwrap_or, sym, refl, ap, ◌∙◌}
use Rattle.std.specs.Str.{bytes_eq}
use Rattle.std.specs.BTreeMap.{BTreeMap, get, is_at}
use Rattle.std.proofs.lemmas.Map.Text.{is_eq-slice_cmp}
use Rattle.std.proofs.lemmas.Slice.Eq.{bytes_eq-Decides}
use Rattle.source.specs.declared.ObjectId.{ObjectId}
use Rattle.fields.specs.declared.Misfit.{Misfit}
use Rattle.fields.specs.declared.Pair.{Pair}
use Rattle.fields.specs.declared.Pairs.{Pairs}
use Rattle.fields.specs.Pairs.{scan}
use Rattle.fields.specs.Steps.{GivesPair}
use Rattle.fields.proofs.Scans.{Scanned, gives_found, gives_other}
use Rattle.indexed.specs.Places.{by_bytes, known}

module _ (store : List ℕ) where
  -- the place that is known of an id is that of its first pair; where none is known, the scan from `at` on gives what the whole gives
  abbrev pub Noted : ℕ → ObjectId → Option ℕ → Type 0
  Noted at q o = MatchOption o (Scanned q.bytes store at) (λ p. Ok (Some p) ≡ scan (length store) q.bytes store 0)

  module _ (s t : Pairs) (same : s.store.now ≡ store) (q : ObjectId) where
    noted_by : (at : ℕ) (p : Pair) (o old : Option ℕ) (b : Bool) → GivesPair s (Some (Ok (at, p))) t → b ≡ bytes_eq p.id.bytes q.bytes → (b ≡ true → old ≡ o) → Noted s.at q o → Noted t.at q (cond b (Some (unwrap_or old at)) o)
    noted_by at p None old true g e same_as n = rw (same_as refl) (gives_found q.bytes store s same n t at p g e)
    noted_by at p None old false g e same_as n = gives_other q.bytes store s same n t at p g e
    noted_by at p (Some r) old true g e same_as n = rw (same_as refl) n
    noted_by at p (Some r) old false g e same_as n = n

    pub one_more : (m : BTreeMap ObjectId ℕ) (at : ℕ) (p : Pair) → GivesPair s (Some (Ok (at, p))) t → Noted s.at q (get by_bytes m q)
        → Noted t.at q (cond (is_at (by_bytes p.id) q) (Some (unwrap_or (get by_bytes m p.id) at)) (get by_bytes m q))
    one_more m at p g n =
        let e = is_eq-slice_cmp p.id.bytes q.bytes in
        let same_as : is_at (by_bytes p.id) q ≡ true → get by_bytes m p.id ≡ get by_bytes m q = λ b. ap (λ (x : List ℕ). get by_bytes m (record { bytes = x })) ((bytes_eq-Decides p.id.bytes q.bytes).0 (sym e ∙ b)) in
        noted_by at p (get by_bytes m q) (get by_bytes m p.id) (is_at (by_bytes p.id) q) g e same_as n

    pub over : (o : Option ℕ) (rest : Result (Unit {0}) Misfit) → (Scanned q.bytes store s.at → known None rest ≡ scan (length store) q.bytes store 0) → Noted s.at q o → known o rest ≡ scan (length store) q.bytes store 0
    over None rest h n = h n
    over (Some p) rest h n = n
