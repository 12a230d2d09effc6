use Rattle.std.proofs.Common.{arith, false-eqb, rules}
use Rattle.commit.proofs.Numbers.{digit_at, room, number_more, amount_all}
use Rattle.commit.proofs.amount.Goals as goal

pub overflow_mul-n : goal.overflow_mul-n
overflow_mul-n c = omega (arith, room c.loop-d.n c.loop-d.d-index c.loop-d.invariant.1 (omega arith))

pub overflow_sub-d : goal.overflow_sub-d
overflow_sub-d c = (digit_at c.args.digits.now c.loop-d.d-index c.loop-d-test.true c.if-not-all_digits.ensures).0

pub overflow_add-n : goal.overflow_add-n
overflow_add-n c =
    let h = (digit_at c.args.digits.now c.loop-d.d-index c.loop-d-test.true c.if-not-all_digits.ensures).1 in
    omega (arith, room c.loop-d.n c.loop-d.d-index c.loop-d.invariant.1 (omega arith))

pub loop-d-preserved : goal.loop-d-preserved
loop-d-preserved c = number_more _ _ _ _ (search rules) c.loop-d-test.true c.if-not-all_digits.ensures c.loop-d.invariant.0 c.loop-d.invariant.1

pub returns : goal.returns
returns c =
    amount_all c.args.digits.now _ c.loop-d.d-index (let h = false-eqb _ _ c.if-is_empty.ensures in omega arith) (omega arith) c.if-not-all_digits.ensures (omega arith) c.loop-d.invariant.0
