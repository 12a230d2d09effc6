use Rattle.book.specs.Model.{model}
use Rattle.queue.specs.Queue.{waiting}
use Rattle.model.proofs.Looks.{looks_at}
use Rattle.walk.specs.View.{view}
use Rattle.walk.proofs.state.State.lookup.Goals as goal

pub returns-clause-is : goal.returns-clause-is
unfolding view
returns-clause-is g c = let w = c.args.self.now in looks_at (g.S.Source.meaning c.args.source.now) (model w.book) (model c.lookup.new.self) (waiting w.queue) w.count c.args.id c.lookup.result c.lookup.ensures.after c.lookup.ensures.value
