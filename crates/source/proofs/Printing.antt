-- How a name is printed in hex.
use Rattle.std.proofs.Common.{◌≡◌, ℕ, zero, suc, ◌*◌, ◌/◌, ◌%◌, ◌<◌, List, [], ◌∷◌, length, get_or, refl, sym, ap, ◌∙◌, arith, ext_get_or}
use Rattle.source.specs.Hex.{hex_of, half}

length_hex : (bs : List ℕ) → length (hex_of bs) ≡ 2 * length bs
length_hex [] = refl
length_hex (b ∷ bs) = let h = length_hex bs in omega arith

hex_at : (bs : List ℕ) (i : ℕ) → i < 2 * length bs → get_or (hex_of bs) i 0 ≡ half bs (i / 2) (i % 2)
hex_at [] i lt = absurd (omega arith)
hex_at (b ∷ bs) zero lt = refl
hex_at (b ∷ bs) (suc zero) lt = refl
hex_at (b ∷ bs) (suc (suc i)) lt =
    let q : suc (i / 2) ≡ suc (suc i) / 2 = omega arith in
    let r : i % 2 ≡ suc (suc i) % 2 = omega arith in
    hex_at bs i (omega arith)
    ∙ ap (λ (m : ℕ). half (b ∷ bs) m (i % 2)) q
    ∙ ap (λ (m : ℕ). half (b ∷ bs) (suc (suc i) / 2) m) r

-- the digits of twenty bytes, each from its half of a byte
pub hex_all : (bs ds : List ℕ) → length bs ≡ 20 → length ds ≡ 40 → ((i : ℕ) → i < 40 → get_or ds i 0 ≡ half bs (i / 2) (i % 2)) → ds ≡ hex_of bs
hex_all bs ds twenty forty each =
    let long = length_hex bs in
    ext_get_or 0 ds (hex_of bs) (omega (arith, long, twenty, forty)) (λ i lt. each i (omega arith) ∙ sym (hex_at bs i (omega arith)))
