use Rattle.std.proofs.Common.{◌+◌, ◌-◌, ◌/◌, ◌<◌, ◌≤◌, length, take, sym, ◌∙◌, arith}
use Rattle.std.proofs.HeapSift as sifts
use Rattle.std.proofs.Permutation.{as_core}
use Rattle.std.proofs.lemmas.List.Sorted.{IsPermutation-refl, IsPermutation-trans}
use Rattle.queue.specs.Order.{rank}
use Rattle.queue.proofs.Ranking.{order, told, taken, risen}
use Rattle.queue.proofs.heap.rise.Goals as goal

pub loop-at-init : goal.loop-at-init
loop-at-init g c = (omega arith, IsPermutation-refl _, sifts.rise_begins rank order c.args.places.now c.args.at)

pub loop-at-preserved : goal.loop-at-preserved
loop-at-preserved g c =
    let l = c.loop-at in
    let xs = c.args.places.now in
    let ys = l.places in
    let zs = c.swap.new.self in
    let n = c.args.at + 1 in
    let up : 0 < l.at = c.loop-at-test.true in
    let le : n ≤ length ys = omega (arith, c.requires) in
    let under = l.invariant.0 in (
      omega arith,
      IsPermutation-trans (take n xs) (take n ys) (take n zs) l.invariant.1 (taken ys zs n ((l.at - 1) / 2) l.at (omega arith) (omega arith) le c.swap.ensures.by_index.3),
      sifts.rise_steps rank order xs ys zs c.args.at l.at up under (omega arith) (c.swap.ensures.after ∙ sym (as_core ys ((l.at - 1) / 2) l.at)) (told ys ((l.at - 1) / 2) l.at _ c.if-not-sooner.ensures) l.invariant.2,
    )

pub returns-then-not-sooner : goal.returns-then-not-sooner
returns-then-not-sooner g c =
    let l = c.loop-at in
    let xs = c.args.places.now in
    record { shuffled = l.invariant.1; heap = risen xs l.places c.args.at (sifts.rise_rests rank order xs l.places c.args.at l.at (told l.places ((l.at - 1) / 2) l.at _ c.if-not-sooner.ensures) l.invariant.2) }

pub returns : goal.returns
returns g c =
    let l = c.loop-at in
    let xs = c.args.places.now in
    record { shuffled = l.invariant.1; heap = risen xs l.places c.args.at (sifts.rise_tops rank order xs l.places c.args.at l.at (omega arith) l.invariant.2) }
