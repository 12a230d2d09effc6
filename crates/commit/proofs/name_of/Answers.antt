use Rattle.std.proofs.Common.{List, ℕ, ◌*◌, refl, ap, arith, rules}
use Rattle.source.proofs.Arrays.{from_fn_all}
use Rattle.commit.proofs.Numbers.{hex_all, hex_pair}
use Rattle.commit.proofs.name_of.Goals as goal

pub returns : goal.returns
returns c =
    let ds = c.args.digits.now in
    let made = c.from_fn-bytes.ensures.items in
    ap (λ (b : List ℕ). record { bytes = b }) (hex_all ds c.from_fn-bytes.result c.requires made.long (λ i lt. from_fn_all _ _ (λ k. hex_pair ds (2 * k)) (λ k y q r. search rules) _ 0 20 _ refl made.each i (omega arith) (omega arith)))
