-- Digits in loops, and words taken apart.
use Rattle.std.proofs.Common.{◌≡◌, ℕ, zero, suc, ◌+◌, ◌-◌, ◌*◌, ◌^◌, ◌<◌, ◌≤◌, Bool, true, cond, ◌&&◌, leb, List, [], ◌∷◌, length, get_or, drop, Some, None, sym, refl, ap, ◌∙◌, pow-suc, add-one, arith, ext_get_or, le-leb}
use native.Mathlib.Nat.{pow-le-pow_right}
use Rattle.std.proofs.lemmas.List.{at_drop_more, drop_all}
use Rattle.std.proofs.lemmas.Bool.Decides.{nat_tests}
use Rattle.commit.specs.Layout.{digitb, all_digits, number, amount_of, hex_bytes, hex_value}

digit_front : (d : ℕ) (b : Bool) → true ≡ (digitb d && b) → (48 ≤ d) × (d ≤ 57) × (true ≡ b)
digit_front d b h = (grind (arith, nat_tests), grind (arith, nat_tests), grind (arith, nat_tests))

pub digit_at : (ds : List ℕ) (i : ℕ) → i < length ds → true ≡ all_digits ds → (48 ≤ get_or ds i 0) × (get_or ds i 0 ≤ 57)
digit_at [] i lt all = absurd (omega arith)
digit_at (d ∷ ds) zero lt all = let h = digit_front d (all_digits ds) all in (h.0, h.1)
digit_at (d ∷ ds) (suc i) lt all = digit_at ds i (omega arith) (digit_front d (all_digits ds) all).2

pub room : (n i : ℕ) → n < 10 ^ i → i < 19 → n < 10 ^ 18
room n i h lt = let le : 10 ^ i ≤ 10 ^ 18 = pow-le-pow_right {n = 10} (omega arith) {i = i} {j = 18} (omega arith) in omega (arith, le)

pub number_more : (ds : List ℕ) (i n v : ℕ) → v ≡ get_or ds i 0 - 48 → i < length ds → true ≡ all_digits ds → number n (drop i ds) ≡ number 0 ds → n < 10 ^ i
    → (number (n * 10 + v) (drop (i + 1) ds) ≡ number 0 ds) × (n * 10 + v < 10 ^ (i + 1))
number_more ds i n v is lt all e small =
    let p : 10 ^ (i + 1) ≡ 10 ^ i * 10 = ap (λ (k : ℕ). 10 ^ k) (add-one i) ∙ pow-suc 10 i in
    let h = digit_at ds i lt all in
    (ap (λ (k : ℕ). number (n * 10 + k) (drop (i + 1) ds)) is ∙ sym (at_drop_more (number n) ds i 0 lt) ∙ e, omega (arith, p, h.1))

pub amount_all : (ds : List ℕ) (n i : ℕ) → 1 ≤ length ds → length ds ≤ 19 → true ≡ all_digits ds → length ds ≤ i → number n (drop i ds) ≡ number 0 ds → Some n ≡ amount_of ds
amount_all ds n i some few all le e =
    let z : number n (drop i ds) ≡ n = ap (number n) (drop_all i ds le) in
    let v : n ≡ number 0 ds = sym z ∙ e in
    ap (λ (k : ℕ). Some k) v
    ∙ ap (λ (b : Bool). cond b (Some (number 0 ds)) None) all
    ∙ sym (ap (λ (b : Bool). cond b (cond (all_digits ds) (Some (number 0 ds)) None) None) (ap (λ (b : Bool). b && leb (length ds) 19) (le-leb 1 (length ds) some) ∙ le-leb (length ds) 19 few))

length_hex : (ds : List ℕ) (n : ℕ) → length ds ≡ 2 * n → length (hex_bytes ds) ≡ n
length_hex [] n e = omega arith
length_hex (a ∷ []) n e = absurd (omega arith)
length_hex (a ∷ b ∷ ds) zero e = absurd (omega arith)
length_hex (a ∷ b ∷ ds) (suc n) e = let h = length_hex ds n (omega arith) in omega arith

-- the byte that two digits of ds write, from the place k on
abbrev pub hex_pair : List ℕ → ℕ → ℕ
hex_pair ds k = hex_value (get_or ds k 0) * 16 + hex_value (get_or ds (k + 1) 0)

hex_at : (ds : List ℕ) (i d : ℕ) → 2 * i + 1 < length ds → get_or (hex_bytes ds) i d ≡ hex_pair ds (2 * i)
hex_at [] i d lt = absurd (omega arith)
hex_at (a ∷ []) i d lt = absurd (omega arith)
hex_at (a ∷ b ∷ ds) zero d lt = refl
hex_at (a ∷ b ∷ ds) (suc i) d lt =
    let two : suc (suc (2 * i)) ≡ 2 * suc i = omega arith in
    let one : suc (suc (2 * i + 1)) ≡ 2 * suc i + 1 = omega arith in
    hex_at ds i d (omega arith)
    ∙ ap (λ (m : ℕ). hex_value (get_or (a ∷ b ∷ ds) m 0) * 16 + hex_value (get_or (a ∷ b ∷ ds) (suc (suc (2 * i + 1))) 0)) two
    ∙ ap (λ (m : ℕ). hex_value (get_or (a ∷ b ∷ ds) (2 * suc i) 0) * 16 + hex_value (get_or (a ∷ b ∷ ds) m 0)) one

-- the bytes of a name, each from its two digits
pub hex_all : (ds bytes : List ℕ) → length ds ≡ 40 → length bytes ≡ 20 → ((i : ℕ) → i < 20 → get_or bytes i 0 ≡ hex_pair ds (2 * i)) → bytes ≡ hex_bytes ds
hex_all ds bytes forty twenty each =
    ext_get_or 0 bytes (hex_bytes ds) (twenty ∙ sym (length_hex ds 20 forty)) (λ i lt. each i (omega arith) ∙ sym (hex_at ds i 0 (omega arith)))
