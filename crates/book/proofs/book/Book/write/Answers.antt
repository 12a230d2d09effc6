use Rattle.std.proofs.Common.{vec_items, refl, arith}
use Rattle.book.specs.Model.{rewrite}
use Rattle.book.proofs.Heads.{entries_long}
use Rattle.book.proofs.Inserts.{meta_kept}
use Rattle.book.proofs.Readings.{altered_in}
use Rattle.book.proofs.book.Book.write.Goals as goal

pub invariant_of-self : goal.invariant_of-self
invariant_of-self c =
    let b = c.args.self.now in
    let l = entries_long b in
    let kept = meta_kept (vec_items b.rows) b.limit b.used b.linked c.args.row c.index_mut.result.now c.args.metadata (omega (arith, c.requires)) c.index_mut.ensures.value (omega arith) b.inside b.chained b.headed b.distinct in
    record { within = omega arith; lent = omega arith; narrow = omega arith; room = omega arith; inside = kept.0; chained = kept.1.0; headed = kept.1.1.0; distinct = kept.1.1.1.0 }

pub returns : goal.returns
returns c =
    let b = c.args.self.now in
    altered_in (rewrite c.args.metadata) b c.args.row c.index_mut.result.now c.index_mut.result.now c.args.metadata refl c.index_mut.ensures.value c.index_mut.ensures.value (omega (arith, c.requires, entries_long b))
