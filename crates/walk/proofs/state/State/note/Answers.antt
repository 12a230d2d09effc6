use Rattle.book.specs.Model.{model}
use Rattle.queue.specs.Queue.{waiting}
use Rattle.walk.proofs.Notes.{note_called}
use Rattle.walk.specs.View.{view}
use Rattle.walk.proofs.state.State.note.Goals as goal

pub returns-clause-is : goal.returns-clause-is
unfolding view
returns-clause-is g c =
    let w = c.args.self.now in
    λ n. note_called n (g.S.Source.meaning c.args.source.now) (model w.book) (model c.note.new.self) (waiting w.queue) w.count c.args.id c.args.remark c.note.result c.note.ensures.after c.note.ensures.value
