use Rattle.std.proofs.Common.{List, ℕ, Option, sym, ap, ◌∙◌, rules}
use Rattle.std.specs.Option.{is_some}
use Rattle.commit.specs.Layout.{named}
use Rattle.commit.proofs.Fronts.{stripped, named_is}
use Rattle.commit.proofs.is_named.Goals as goal

pub returns : goal.returns
returns c = named_is c.strip_prefix.result _ (search rules) ∙ ap (λ (o : Option (List ℕ)). is_some (named o)) (sym (stripped c.args.word.now c.args.line.now _ c.strip_prefix.ensures.cases))
