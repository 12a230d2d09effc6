use Rattle.std.proofs.Common.{◌≡◌, List, [], ◌∷◌, map, length, take, Some, vec_items, sym, refl, ap, ◌∙◌, arith}
use Rattle.std.specs.Vec.{with_items}
use Rattle.queue.specs.declared.entry.Entry.{Entry}
use Rattle.queue.specs.declared.entry.Place.{Place}
use Rattle.queue.specs.Waiting.{head, tail}
use Rattle.queue.specs.Places.{entry}
use Rattle.queue.specs.Order.{ordered, waits}
use Rattle.queue.specs.Queue.{waiting, room, entered}
use Rattle.queue.proofs.Moves.{length_tail}
use Rattle.queue.proofs.Sound.{pulled, refill_kept}
use Rattle.queue.proofs.queue.Queue.draw.Goals as goal

pub invariant_of-self : goal.invariant_of-self
invariant_of-self g c =
    let q = c.args.self.now in
    let last = c.in_ok-last.last in
    let t = pulled q last c.pull-top.result c.as_mut_slice.result.now c.pull-top.new.places (omega (arith, c.in_ok-last.ensures)) c.as_mut_slice.ensures.value c.pull-top.auto.places c.pull-top.ensures.value c.pull-top.ensures.shuffled c.pull-top.ensures.heap in
    let k = refill_kept q c.pull-top.new.places last q.next t.places t.sound in
    record { within = omega (arith, q.within, c.in_ok-last.ensures); few = k.few; heap = k.heap; apart = k.apart; numbered = k.numbered }

pub returns-in_err-last : goal.returns-in_err-last
unfolding waiting
returns-in_err-last g c =
    let q = c.args.self.now in
    let z : q.len ≡ 0 = omega (arith, c.in_err-last.ensures) in
    let none : waiting q ≡ [] = ap (λ (n : Prim.Native.Nat.ℕ). map entry (ordered (take n (vec_items q.places)))) z in
    record { value = c.from_residual.ensures ∙ sym (ap head none); waits = none ∙ sym (ap tail none); len = ap length (none ∙ sym (ap tail none)) ∙ length_tail (waiting q); room = refl; entered = refl }

pub returns : goal.returns
unfolding waiting room entered
returns g c =
    let q = c.args.self.now in
    let last = c.in_ok-last.last in
    let t = pulled q last c.pull-top.result c.as_mut_slice.result.now c.pull-top.new.places (omega (arith, c.in_ok-last.ensures)) c.as_mut_slice.ensures.value c.pull-top.auto.places c.pull-top.ensures.value c.pull-top.ensures.shuffled c.pull-top.ensures.heap in
    let p = c.pull-top.result in
    let all : waiting q ≡ entry p ∷ waits (take last c.pull-top.new.places) = ap (map entry) t.all in
    let now-waits : waits (take last (vec_items (with_items q.places c.pull-top.new.places))) ≡ tail (waiting q) = ap (λ (ys : List (Place g.row.V.Denot)). waits (take last ys)) t.places ∙ sym (ap tail all) in
    record {
      value = ap (λ (e : Entry g.row.V.Denot). Some e) c.entry.ensures ∙ sym (ap head all);
      waits = now-waits;
      len = ap length now-waits ∙ length_tail (waiting q);
      room = refl;
      entered = refl;
    }
