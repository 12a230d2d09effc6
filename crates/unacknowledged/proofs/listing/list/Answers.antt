use Rattle.std.proofs.Common.{◌≡◌, IfOk, List, vec_items, subst, rules, tests}
use Rattle.std.proofs.lemmas.Iterator.{items_from_collect, YieldsList-from_slice}
use Rattle.std.proofs.lemmas.Iterator.Consumers.{YieldsList-at, YieldsList-from_filter, YieldsList-from_filter_map}
use Rattle.book.specs.Model.{model}
use Rattle.model.specs.View.{rows_of}
use Rattle.model.specs.declared.Event.{Event}
use Rattle.unacknowledged.specs.declared.Commit.{Commit}
use Rattle.unacknowledged.specs.Listing.{commit_in}
use Rattle.unacknowledged.proofs.Chains.{kept, chained}
use Rattle.unacknowledged.proofs.listing.list.Goals as goal

pub returns : goal.returns
returns c =
    let es = c.args.events.now in
    let rows = rows_of (model c.args.book.now) in
    subst (λ (cs : List Commit). IfOk c.collect.result (λ v. vec_items v ≡ cs)) (chained es rows es)
    (items_from_collect _ c.collect.ensures.ran
    (YieldsList-from_filter _ (kept es rows)
    (YieldsList-at c.filter.ensures.source (YieldsList-from_filter_map _ (λ (e : Event). commit_in rows e.gave) (YieldsList-from_slice es cc) c.filter_map.ensures.closure (λ x r q k. search (rules, tests))))
    c.filter.ensures.closure (λ x b q k. search (rules, tests))))
