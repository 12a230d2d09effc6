use Rattle.std.proofs.Common.{◌≡◌, ◌+◌, arith}
use Rattle.fields.proofs.Past.{pair_is}
use Rattle.fields.proofs.first_pair.Goals as goal

pub returns-in-Ok-clause-pair : goal.returns-in-Ok-clause-pair
returns-in-Ok-clause-pair c =
    let f = c.in_ok-field.ensures in
    let i = c.in-Ok.ensures in
    let field = c.in_ok-field.field in
    let behind : field.rest.at ≡ c.args.tail.at + 23 = omega (arith, f.0, f.1, i.0) in
    rw (c.text_pair.ensures.pair, behind, f.0) (pair_is c.args.tail.bytes.now c.in-Ok.id.bytes field.body.now field.rest.bytes.now field.tag c.args.tail.at f.2 c.if-field-eq-ID.true i.0 i.1)
