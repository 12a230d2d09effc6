use Rattle.std.proofs.Common.{◌+◌, ◌-◌, List, take, drop, sym, subst, ap, ◌∙◌}
use Rattle.std.specs.List.{slice_get}
use Rattle.source.specs.declared.ObjectId.{ObjectId}
use Rattle.book.specs.Model.{Linked}
use Rattle.book.proofs.Readings.{got, link_read, link_none}
use Rattle.book.proofs.book.Book.link.Goals as goal

pub returns : goal.returns
returns c =
    let b = c.args.self.now in
    let r = c.in_ok-r.r in
    link_read b c.args.row c.args.n r c.row.result c.copied.result c.row.ensures (sym c.in_ok-r.was ∙ c.ok.ensures.value)
    (λ f. c.copied.ensures ∙ got _ c.args.n c.get.result c.get.ensures.lookup.3 ∙ ap (λ (ls : List ObjectId). slice_get (take (r.first + r.count - r.first) (drop r.first ls)) c.args.n) c.deref.ensures.value)

pub returns-in_err-r : goal.returns-in_err-r
returns-in_err-r c = subst (Linked c.args.self.now c.args.row c.args.n) (sym c.from_residual.ensures) (link_none c.args.self.now c.args.row c.args.n c.row.result c.row.ensures (sym c.in_err-r.was ∙ c.ok.ensures.value))
