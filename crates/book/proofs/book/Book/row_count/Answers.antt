use Rattle.std.proofs.Common.{sym}
use Rattle.book.proofs.Heads.{entries_long}
use Rattle.book.proofs.book.Book.row_count.Goals as goal

pub returns : goal.returns
returns c = sym (entries_long c.args.self.now)
