use Rattle.std.proofs.Common.{rules}
use Rattle.book.specs.Model.{model}
use Rattle.walk.proofs.Views.{metadata_is}
use Rattle.walk.specs.View.{view}
use Rattle.walk.proofs.state.State.metadata.Goals as goal

pub returns : goal.returns
unfolding view
returns c =
    metadata_is _ (model c.args.self.now.book).entries c.args.row _ _ c.unwrap_or_default.ensures c.metadata.ensures
    (λ m d. record { original = search rules; ttl = search rules; flags = search rules })
