use Rattle.book.specs.Model.{model}
use Rattle.queue.specs.Queue.{waiting}
use Rattle.walk.proofs.Views.{flags_set}
use Rattle.walk.specs.View.{view}
use Rattle.walk.proofs.state.State.set_flags.Goals as goal

pub returns-clause-is : goal.returns-clause-is
unfolding view
returns-clause-is c = let w = c.args.self.now in flags_set (model w.book) (model c.set_flags.new.self) (waiting w.queue) w.count c.args.row c.args.mask.bits c.requires c.set_flags.ensures.after
