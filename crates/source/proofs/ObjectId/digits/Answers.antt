use Rattle.std.proofs.Common.{◌/◌, ◌%◌, refl, arith, rules}
use Rattle.source.specs.Hex.{half}
use Rattle.source.proofs.Arrays.{from_fn_all}
use Rattle.source.proofs.Printing.{hex_all}
use Rattle.source.proofs.ObjectId.digits.Goals as goal

pub returns : goal.returns
returns c =
    let bs = c.args.self.bytes in
    let made = c.from_fn.ensures.items in
    hex_all bs c.from_fn.result (search rules) made.long (λ i lt. from_fn_all _ _ (λ k. half bs (k / 2) (k % 2)) (λ k y q r. search rules) _ 0 40 _ refl made.each i (omega arith) (omega arith))
