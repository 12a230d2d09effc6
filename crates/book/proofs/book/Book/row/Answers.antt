use Rattle.std.proofs.Common.{List, take, sym, subst, ap, ◌∙◌}
use Rattle.std.specs.List.{slice_get}
use Rattle.book.specs.declared.types.Row.{Row}
use Rattle.book.specs.Model.{Read}
use Rattle.book.proofs.Readings.{got, row_read}
use Rattle.book.proofs.book.Book.row.Goals as goal

pub returns : goal.returns
returns c =
    let b = c.args.self.now in
    subst (Read b c.args.row) (sym c.ok_or.ensures.value)
    (row_read b c.args.row c.copied.result (c.copied.ensures ∙ got _ c.args.row c.get.result c.get.ensures.lookup.3 ∙ ap (λ (rs : List Row). slice_get (take b.used rs) c.args.row) c.deref.ensures.value))
