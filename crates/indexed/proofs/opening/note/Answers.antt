use Rattle.std.proofs.Common.{◌≡◌, unwrap_or, rules}
use Rattle.std.specs.BTreeMap.{get}
use Rattle.indexed.specs.Places.{by_bytes}
use Rattle.indexed.proofs.opening.note.Goals as goal

pub returns-clause-after : goal.returns-clause-after
returns-clause-after c = λ q.
    let v : c.or_insert.result.now ≡ unwrap_or (get by_bytes c.args.map.now c.args.id) c.args.place = search rules in
    let u = c.in_ok-map.ensures.update.0 c.or_insert.result.now in
    rw (← v) (search (rules, u.0 q))
