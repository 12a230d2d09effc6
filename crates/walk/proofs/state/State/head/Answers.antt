use Rattle.std.proofs.Common.{sym}
use Rattle.book.specs.Model.{model}
use Rattle.queue.specs.Queue.{waiting}
use Rattle.model.proofs.Moves.{head_flags}
use Rattle.walk.specs.View.{view}
use Rattle.walk.proofs.state.State.head.Goals as goal

pub returns-clause-flags : goal.returns-clause-flags
unfolding view
returns-clause-flags c = let w = c.args.self.now in sym (head_flags (model w.book) (waiting w.queue) w.count c.args.row c.head.result c.head.ensures)
