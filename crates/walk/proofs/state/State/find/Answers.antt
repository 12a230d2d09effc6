use Rattle.book.specs.Model.{model}
use Rattle.walk.proofs.Views.{find_is}
use Rattle.walk.specs.View.{view}
use Rattle.walk.proofs.state.State.find.Goals as goal

pub returns : goal.returns
unfolding view
returns c = find_is (model c.args.self.now.book).entries c.args.id _ c.find.ensures
