use Rattle.std.proofs.lemmas.Option.{IfSome_then}
use Rattle.unacknowledged.specs.Reports.{told}
use Rattle.unacknowledged.proofs.Pasts.{reports}
use Rattle.unacknowledged.proofs.running.run.Goals as goal

pub returns : goal.returns
returns g c =
    IfSome_then (told c.conclude.result) c.conclude.ensures
    (λ o e. reports _ _ _ _ _ _ _ _ _ _ o c.new-walk.ensures c.in_ok-events.ensures c.as_slice.ensures.value c.book.ensures e)
