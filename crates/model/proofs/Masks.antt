-- The flag byte of the code beside the record of flags.
use Rattle.std.proofs.Common.{◌≡◌, ℕ, zero, suc, ◌%◌, ◌<◌, Bool, true, false, not, ◌&&◌, eqb, sym, refl, ap, ◌∙◌, subst, ⊎_elim, not-suc-le-zero, mod-lt, mod-eq_of_lt, arith, lit<}
use mathlib.Core.Bool.{beq}
use lib.Bits.{bit_and, bit_or, and_mod, or_mod, or_lt, and_le_r}
use Rattle.std.proofs.lemmas.Bool.{and_parts, cases_eq, false≢true}
use Rattle.book.specs.declared.types.Remark.{Remark}
use Rattle.book.specs.declared.types.Remark.TheVariants as remark
use Rattle.model.specs.Steps.{remarked}
use Rattle.book.specs.Bits.{has, bit_of}
use Rattle.model.specs.View.{unpack}
use Rattle.model.specs.Book.{Flags, SEEN, COMMON, POPPED, COMMON_REF_AND_SEEN, COMMON_AND_SEEN, ADVERTISED_AND_SEEN, COMPLETE, ALTERNATE, join, meets}

abbrev same : Flags → Flags → Bool
same f g = beq f.complete g.complete && (beq f.alternate g.alternate && (beq f.common g.common && (beq f.seen g.seen && (beq f.popped g.popped && (beq f.cref g.cref && (beq f.advertised g.advertised && beq f.unused g.unused))))))

beq_eq : (a b : Bool) → beq a b ≡ true → a ≡ b
beq_eq true true h = refl
beq_eq true false h = absurd (false≢true h)
beq_eq false true h = absurd (false≢true h)
beq_eq false false h = refl

same_eq : (f g : Flags) → same f g ≡ true → f ≡ g
same_eq f g h =
    let a0 = and_parts (beq f.complete g.complete) _ (h) in
    let p0 : f.complete ≡ g.complete = beq_eq f.complete g.complete a0.0 in
    let a1 = and_parts (beq f.alternate g.alternate) _ a0.1 in
    let p1 : f.alternate ≡ g.alternate = beq_eq f.alternate g.alternate a1.0 in
    let a2 = and_parts (beq f.common g.common) _ a1.1 in
    let p2 : f.common ≡ g.common = beq_eq f.common g.common a2.0 in
    let a3 = and_parts (beq f.seen g.seen) _ a2.1 in
    let p3 : f.seen ≡ g.seen = beq_eq f.seen g.seen a3.0 in
    let a4 = and_parts (beq f.popped g.popped) _ a3.1 in
    let p4 : f.popped ≡ g.popped = beq_eq f.popped g.popped a4.0 in
    let a5 = and_parts (beq f.cref g.cref) _ a4.1 in
    let p5 : f.cref ≡ g.cref = beq_eq f.cref g.cref a5.0 in
    let a6 = and_parts (beq f.advertised g.advertised) _ a5.1 in
    let p6 : f.advertised ≡ g.advertised = beq_eq f.advertised g.advertised a6.0 in
    let p7 : f.unused ≡ g.unused = beq_eq f.unused g.unused a6.1 in
    λ i. record { complete = p0 i; alternate = p1 i; common = p2 i; seen = p3 i; popped = p4 i; cref = p5 i; advertised = p6 i; unused = p7 i }

-- a test passes at each number below n
abbrev below : (ℕ → Bool) → ℕ → Bool
below p zero = true
below p (suc n) = p n && below p n

below_at : (p : ℕ → Bool) (n k : ℕ) → below p n ≡ true → k < n → p k ≡ true
below_at p zero k h l = absurd (not-suc-le-zero l)
below_at p (suc n) k h l = ⊎_elim (λ e. subst (λ (m : ℕ). p m ≡ true) (sym e) (and_parts (p n) (below p n) h).0) (λ ne. below_at p n k (and_parts (p n) (below p n) h).1 (omega (arith, l, ne))) (cases_eq k n)

abbrev or_test : ℕ → Flags → ℕ → Bool
or_test m M f = same (unpack (bit_or f m)) (join M (unpack f)) && beq (has f m) (meets M (unpack f))

-- only the low eight bits are read
has_mod : (f m : ℕ) → m < 256 → bit_and f m ≡ bit_and (f % 256) m
has_mod f m l = sym (mod-eq_of_lt (let a = and_le_r f m in omega (arith, a, l))) ∙ and_mod f m 8 ∙ ap (bit_and (f % 256)) (mod-eq_of_lt l)

unpack_mod : (f : ℕ) → unpack f ≡ unpack (f % 256)
unpack_mod f = λ i. record { complete = at 1 (lit< tt) i; alternate = at 2 (lit< tt) i; common = at 4 (lit< tt) i; seen = at 8 (lit< tt) i; popped = at 16 (lit< tt) i; cref = at 32 (lit< tt) i; advertised = at 64 (lit< tt) i; unused = at 128 (lit< tt) i }
  where
    at : (m : ℕ) → m < 256 → has f m ≡ has (f % 256) m
    at m l = ap (λ (x : ℕ). not (eqb x 0)) (has_mod f m l)

-- `flags | m` and `flags & m != 0`, at a mask m: a test over all bytes
or_law : (m : ℕ) (M : Flags) → m < 256 → below (or_test m M) 256 ≡ true → (f : ℕ) → (unpack (bit_or f m) ≡ join M (unpack f)) × (has f m ≡ meets M (unpack f))
or_law m M small t f =
    let l : f % 256 < 256 = mod-lt f {m = 256} (lit< tt) in
    let a = and_parts (same (unpack (bit_or (f % 256) m)) (join M (unpack (f % 256)))) (beq (has (f % 256) m) (meets M (unpack (f % 256)))) (below_at (or_test m M) 256 (f % 256) t l) in
    let e : bit_or f m % 256 ≡ bit_or (f % 256) m = or_mod f m 8 ∙ ap (bit_or (f % 256)) (mod-eq_of_lt small) in
    let l2 : bit_or (f % 256) m % 256 ≡ bit_or (f % 256) m = mod-eq_of_lt (or_lt 8 (f % 256) m l small) in (
      unpack_mod (bit_or f m) ∙ ap unpack e ∙ same_eq (unpack (bit_or (f % 256) m)) (join M (unpack (f % 256))) a.0 ∙ ap (join M) (sym (unpack_mod f)),
      ap (λ (x : ℕ). not (eqb x 0)) (has_mod f m small) ∙ beq_eq (has (f % 256) m) (meets M (unpack (f % 256))) a.1 ∙ ap (meets M) (sym (unpack_mod f)),
    )

pub or_seen : (f : ℕ) → (unpack (bit_or f 8) ≡ join SEEN (unpack f)) × (has f 8 ≡ meets SEEN (unpack f))
or_seen = or_law 8 SEEN (lit< tt) refl

pub or_common : (f : ℕ) → (unpack (bit_or f 4) ≡ join COMMON (unpack f)) × (has f 4 ≡ meets COMMON (unpack f))
or_common = or_law 4 COMMON (lit< tt) refl

pub or_popped : (f : ℕ) → (unpack (bit_or f 16) ≡ join POPPED (unpack f)) × (has f 16 ≡ meets POPPED (unpack f))
or_popped = or_law 16 POPPED (lit< tt) refl

pub or_ref : (f : ℕ) → (unpack (bit_or f 40) ≡ join COMMON_REF_AND_SEEN (unpack f)) × (has f 40 ≡ meets COMMON_REF_AND_SEEN (unpack f))
or_ref = or_law 40 COMMON_REF_AND_SEEN (lit< tt) refl

pub or_both : (f : ℕ) → (unpack (bit_or f 12) ≡ join COMMON_AND_SEEN (unpack f)) × (has f 12 ≡ meets COMMON_AND_SEEN (unpack f))
or_both = or_law 12 COMMON_AND_SEEN (lit< tt) refl

pub or_advertised : (f : ℕ) → (unpack (bit_or f 72) ≡ join ADVERTISED_AND_SEEN (unpack f)) × (has f 72 ≡ meets ADVERTISED_AND_SEEN (unpack f))
or_advertised = or_law 72 ADVERTISED_AND_SEEN (lit< tt) refl

-- the byte of a remark
pub or_note : (r : Remark) (f : ℕ) → (unpack (bit_or f (bit_of r)) ≡ join (remarked r) (unpack f)) × (has f (bit_of r) ≡ meets (remarked r) (unpack f))
or_note remark.Complete = or_law 1 COMPLETE (lit< tt) refl
or_note remark.Alternate = or_law 2 ALTERNATE (lit< tt) refl
