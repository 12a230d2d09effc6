use Rattle.book.specs.Model.{model}
use Rattle.queue.specs.Queue.{waiting}
use Rattle.walk.proofs.Views.{skip_set}
use Rattle.walk.specs.View.{view}
use Rattle.walk.proofs.state.State.set_skip.Goals as goal

pub returns-clause-is : goal.returns-clause-is
unfolding view
returns-clause-is c = let w = c.args.self.now in skip_set (model w.book) (model c.set_skip.new.self) (waiting w.queue) w.count c.args.row c.args.original_ttl c.args.ttl c.set_skip.ensures.after
