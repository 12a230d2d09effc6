use Rattle.std.proofs.Common.{ℕ, List, vec_items, ap, ◌∙◌, arith}
use Rattle.source.specs.declared.ObjectId.{ObjectId}
use Rattle.source.specs.Ids.{place}
use Rattle.book.specs.Index.{last, head_of}
use Rattle.book.proofs.Chains.{found_none}
use Rattle.book.proofs.Finds.{ids_in, long, link_of, walked, walked_on}
use Rattle.book.proofs.Inserts.{read_of, ids_front}
use Rattle.book.proofs.book.Book.find.Goals as goal

pub loop-at-init : goal.loop-at-init
loop-at-init c =
    let b = c.args.self.now in
    (walked b c.args.id b.used c.index.result.now.head c.linked-at.result c.linked-at.ensures
    (read_of head_of (vec_items b.rows) c.bucket_of.result c.index.result.now 0 (omega arith) c.index.ensures
    ∙ (b.headed c.bucket_of.result c.bucket_of.ensures.bound ∙ ap (λ (h : ℕ). last (ids_in b) b.limit h b.used) c.bucket_of.ensures.value))
    (omega arith) (λ j l k. absurd (omega arith))).0

pub loop-at-preserved : goal.loop-at-preserved
loop-at-preserved c = (walked_on c.args.self.now c.args.id c.loop-at.at c.in-Some.row c.index-in-Some.result.now c.linked-at-in-Some.result c.in-Some.is c.loop-at.invariant c.index-in-Some.ensures c.if-holds.ensures c.linked-at-in-Some.ensures).0

pub loop-at-smaller : goal.loop-at-smaller
loop-at-smaller c = (walked_on c.args.self.now c.args.id c.loop-at.at c.in-Some.row c.index-in-Some.result.now c.linked-at-in-Some.result c.in-Some.is c.loop-at.invariant c.index-in-Some.ensures c.if-holds.ensures c.linked-at-in-Some.ensures).1

pub returns : goal.returns
returns c =
    let b = c.args.self.now in
    let e = ap link_of c.in_default.is in
    found_none c.args.id (ids_in b) b.used (long b) (λ j l. c.loop-at.invariant.past j (omega (arith, e)) l)
    ∙ ap (λ (xs : List ObjectId). place c.args.id xs 0) (ids_front (vec_items b.links) (vec_items b.rows) b.used)
