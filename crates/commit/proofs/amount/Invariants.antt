use Rattle.std.proofs.Common.{◌≡◌, ◌^◌, ◌<◌, drop}
use Rattle.commit.specs.Layout.{number}
use Rattle.commit.proofs.amount.Given as goal

abbrev pub invariant-loop-d : goal.invariant-loop-d
invariant-loop-d l = (number l.n (drop l.d-index l.digits) ≡ number 0 l.digits) × (l.n < 10 ^ l.d-index)
