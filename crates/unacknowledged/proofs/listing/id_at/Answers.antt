use Rattle.std.proofs.Common.{ap, ◌∙◌}
use Rattle.std.specs.Result.{result_unwrap_or}
use Rattle.book.specs.Model.{model}
use Rattle.book.specs.Rows.{no_id}
use Rattle.unacknowledged.proofs.RowIds.{id_or}
use Rattle.unacknowledged.proofs.listing.id_at.Goals as goal

pub returns : goal.returns
returns c = c.unwrap_or.ensures ∙ ap (λ x. result_unwrap_or x no_id) c.id.ensures ∙ id_or (model c.args.book.now).entries c.args.row
