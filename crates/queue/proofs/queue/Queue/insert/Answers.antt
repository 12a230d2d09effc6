use Rattle.std.proofs.Common.{◌≡◌, ◌+◌, List, length, take, vec_items, refl, ap, ◌∙◌, arith, w64, to_z, of_z}
use Rattle.std.specs.Vec.{with_items}
use Rattle.std.proofs.lemmas.Int.{to_z-of_z}
use Rattle.queue.specs.declared.entry.Place.{Place}
use Rattle.queue.specs.Waiting.{enter}
use Rattle.queue.specs.Order.{waits}
use Rattle.queue.specs.Queue.{waiting, held, room}
use Rattle.queue.specs.Queue as spec
use Rattle.queue.proofs.Moves.{long, length_enter}
use Rattle.queue.proofs.Sound.{added, numbering, refill_kept}
use Rattle.queue.proofs.queue.Queue.insert.Goals as goal

pub add-requires : goal.add-requires
unfolding room
add-requires g c = omega (arith, long c.args.self.now, c.as_mut_slice.ensures.len, c.requires.space)

pub overflow_add-self-2 : goal.overflow_add-self-2
unfolding spec.entered
overflow_add-self-2 g c = omega (arith, (numbering c.args.self.now c.order-order.result c.order-order.ensures).2, c.requires.count)

pub invariant_of-self : goal.invariant_of-self
unfolding room
invariant_of-self g c =
    let q = c.args.self.now in
    let order = c.order-order.result in
    let p : Place g.row.V.Denot = record { date = to_z w64 (of_z w64 c.args.date); order = order; value = c.args.value } in
    let n = numbering q order c.order-order.ensures in
    let t = added q p c.as_mut_slice.result.now c.add.new.places (omega (arith, long q, c.as_mut_slice.ensures.len, c.requires.space)) c.as_mut_slice.ensures.value c.add.auto.places n.0 n.1 c.add.ensures.shuffled c.add.ensures.heap in
    let k = refill_kept q c.add.new.places (q.len + 1) (order + 1) t.places t.sound in
    record { within = omega (arith, long q, c.requires.space); few = k.few; heap = k.heap; apart = k.apart; numbered = k.numbered }

pub returns : goal.returns
unfolding waiting room spec.entered
returns g c =
    let q = c.args.self.now in
    let order = c.order-order.result in
    let p : Place g.row.V.Denot = record { date = to_z w64 (of_z w64 c.args.date); order = order; value = c.args.value } in
    let n = numbering q order c.order-order.ensures in
    let t = added q p c.as_mut_slice.result.now c.add.new.places (omega (arith, long q, c.as_mut_slice.ensures.len, c.requires.space)) c.as_mut_slice.ensures.value c.add.auto.places n.0 n.1 c.add.ensures.shuffled c.add.ensures.heap in
    let waits-now : waits (take (q.len + 1) (vec_items (with_items q.places c.add.new.places))) ≡ enter (record { date = c.args.date; value = c.args.value }) (waiting q)
    = ap (λ (ys : List (Place g.row.V.Denot)). waits (take (q.len + 1) ys)) t.places ∙ t.all ∙ ap (λ d. enter (record { date = d; value = c.args.value }) (waiting q)) (to_z-of_z w64 c.args.date c.ranges.date) in
    record {
      waits = waits-now;
      len = ap length waits-now ∙ length_enter (record { date = c.args.date; value = c.args.value }) (waiting q);
      room = refl;
      entered = omega (arith, n.2);
    }
