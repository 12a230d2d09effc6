-- The parts of a field and of a pair.
use Rattle.std.proofs.Common.{◌≡◌, ℕ, ◌+◌, List, length, get_or, drop, sym, ap, ◌∙◌, le-ltb, eq-eqb}
use Rattle.fields.specs.Fields.{long, body_of, Field}
use Rattle.fields.specs.Pairs.{text_of, pair_of}

-- the pair whose first field is an id
pub pair_is : (bs id name rest : List ℕ) (tag at : ℕ) → Field bs tag name rest → tag ≡ 1 → length name ≡ 20 → id ≡ name → text_of id rest at (at + 23) ≡ pair_of bs at
pair_is bs id name rest tag at f one twenty same =
    let size : long bs ≡ 20 = sym f.held ∙ twenty in
    let name-is : id ≡ body_of bs = same ∙ f.holds in
    let rest-is : rest ≡ drop 23 bs = f.goes ∙ ap (λ (n : ℕ). drop (3 + n) bs) size in
    rw (name-is, rest-is, le-ltb (length bs) (3 + long bs) f.within, eq-eqb (get_or bs 0 0) 1 (sym f.tagged ∙ one), eq-eqb (long bs) 20 size)
