use Rattle.std.proofs.Common.{◌≤◌, length, take, sym, ◌∙◌, arith}
use Rattle.std.proofs.HeapSift as sifts
use Rattle.std.proofs.Permutation.{as_core}
use Rattle.std.proofs.lemmas.List.Sorted.{IsPermutation-refl, IsPermutation-trans}
use Rattle.queue.specs.Order.{rank, Chief}
use Rattle.queue.proofs.Ranking.{order, told, taken, sunk}
use Rattle.queue.proofs.heap.sink.Goals as goal

pub loop-at-init : goal.loop-at-init
loop-at-init g c = (IsPermutation-refl _, sifts.sink_begins rank order c.args.places.now 0 c.args.len)

pub loop-at-preserved : goal.loop-at-preserved
unfolding Chief
loop-at-preserved g c =
    let l = c.loop-at in
    let xs = c.args.places.now in
    let ys = l.places in
    let zs = c.swap.new.self in
    let n = c.args.len in
    let next = c.child-next.result in
    let best = c.child-next.ensures in
    let le : n ≤ length ys = omega (arith, c.requires) in (
      IsPermutation-trans (take n xs) (take n ys) (take n zs) l.invariant.0 (taken ys zs n l.at next (omega arith) best.bound.0 le c.swap.ensures.by_index.3),
      sifts.sink_steps rank order xs ys zs 0 n l.at next (omega arith) best.bound.1 best.bound.2 best.bound.0 le (c.swap.ensures.after ∙ sym (as_core ys l.at next)) best.best (told ys l.at next _ c.if-not-sooner.ensures) l.invariant.1,
    )

pub returns-then-not-sooner : goal.returns-then-not-sooner
unfolding Chief
returns-then-not-sooner g c =
    let l = c.loop-at in
    let xs = c.args.places.now in
    let ys = l.places in
    record { shuffled = l.invariant.0; heap = sunk xs ys c.args.len (sifts.sink_rests rank order xs ys 0 c.args.len l.at c.child-next.result c.child-next.ensures.best (told ys l.at c.child-next.result _ c.if-not-sooner.ensures) l.invariant.1) }

pub returns : goal.returns
returns g c =
    let l = c.loop-at in
    let xs = c.args.places.now in
    record { shuffled = l.invariant.0; heap = sunk xs l.places c.args.len (sifts.sink_ends rank order xs l.places 0 c.args.len l.at c.loop-at-test.false l.invariant.1) }
