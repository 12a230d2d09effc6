use Rattle.book.proofs.Finds.{compared}
use Rattle.book.proofs.book.Book.holds.Goals as goal

pub returns : goal.returns
returns c = compared c.args.self.now c.args.row c.index.result.now c.args.id c.eq.result c.requires c.index.ensures c.eq.ensures
