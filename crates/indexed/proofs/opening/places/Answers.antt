use Rattle.std.proofs.Common.{Some, Ok, Err, sym, ◌∙◌, subst}
use Rattle.std.specs.BTreeMap.{get}
use Rattle.fields.specs.Steps.{GivesPair}
use Rattle.fields.proofs.Scans.{gives_end, gives_misfit}
use Rattle.indexed.specs.Places.{by_bytes}
use Rattle.indexed.proofs.Notes.{Noted, one_more, over}
use Rattle.indexed.proofs.opening.places.Goals as goal

pub loop-pair-preserved : goal.loop-pair-preserved
loop-pair-preserved c =
    let store = c.args.store.now in
    let s = c.loop-pair.pair-iterator in
    let t = c.next.new.self in
    let i = c.loop-pair.invariant in
    let at = c.in-Ok.place in
    let p = c.in-Ok.pair in
    let g : GivesPair s (Some (Ok (at, p))) t = rw c.in-Ok.is at c.in-Some.ensures.steps in
    let n = c.in_ok-note-in-Ok.ensures in
    (tt, tt, g.4 ∙ i.2, n.lawful, λ q. subst (Noted store t.at q) (sym (n.after q)) (one_more store s t i.2 q c.loop-pair.map at p g (i.4 q)))

pub returns-in-Err : goal.returns-in-Err
returns-in-Err c =
    let store = c.args.store.now in
    let s = c.loop-pair.pair-iterator in
    let t = c.next.new.self in
    let i = c.loop-pair.invariant in
    let g : GivesPair s (Some (Err c.in-Err.misfit)) t = rw c.in-Err.is at c.in-Some.ensures.steps in
    (i.3, λ q. over store s t i.2 q (get by_bytes c.loop-pair.map q) (Err c.in-Err.misfit) (λ n. gives_misfit q.bytes store s i.2 n t c.in-Err.misfit g) (i.4 q))

pub returns : goal.returns
returns c =
    let store = c.args.store.now in
    let s = c.loop-pair.pair-iterator in
    let t = c.next.new.self in
    let i = c.loop-pair.invariant in
    (i.3, λ q. over store s t i.2 q (get by_bytes c.loop-pair.map q) (Ok tt) (λ n. gives_end q.bytes store s i.2 n t c.in-None.ensures.steps) (i.4 q))
