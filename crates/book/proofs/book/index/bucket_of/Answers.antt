use Rattle.std.proofs.Common.{◌≡◌, ◌+◌, ◌*◌, ◌%◌, get_or, ap, arith, rules}
use Rattle.book.specs.Index.{hash}
use Rattle.book.proofs.book.index.bucket_of.Goals as goal

pub returns : goal.returns
unfolding hash
returns c =
    let bytes = c.args.id.bytes in
    let e : c.from.result + 256 * c.from-2.result + 65536 * c.from-3.result ≡ get_or bytes 0 0 + 256 * get_or bytes 1 0 + 65536 * get_or bytes 2 0 = omega (arith, c.from.ensures, c.from-2.ensures, c.from-3.ensures) in
    record { value = ap (λ n. n % c.args.buckets) e; bound = search rules }
