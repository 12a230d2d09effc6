use Rattle.std.proofs.Common.{◌≡◌, List, [], get_or, drop, sym, ap, ◌∙◌, subst, arith}
use Rattle.std.proofs.lemmas.List.{drop_all}
use Rattle.source.specs.declared.ObjectId.{ObjectId}
use Rattle.book.specs.Rows.{no_id}
use Rattle.model.specs.Skipping.{Spread}
use Rattle.model.specs.SkipParts.{SpreadOne}
use Rattle.model.proofs.Good.{ext_trans, ext_refl}
use Rattle.model.proofs.SkipMoves.{all_step}
use Rattle.skipping.specs.Seen.{walk, marks, parents_at}
use Rattle.skipping.proofs.Algorithm.spread_all.Goals as goal

pub loop-n-init : goal.loop-n-init
loop-n-init c = (ext_refl (walk c.args.self.now), c.requires.held, omega arith, λ t m. m)

pub loop-n-preserved : goal.loop-n-preserved
loop-n-preserved c =
    let w = c.args.self.now in
    let u = c.loop-n.self in
    let v = c.spread_one.new.self in
    let k = c.args.row in
    let i = c.loop-n.invariant in
    let ps = parents_at w k in
    let pe : c.parent-parent.result ≡ get_or ps c.loop-n.n no_id = c.parent-parent.ensures ∙ ap (λ (l : List ObjectId). get_or l c.loop-n.n no_id) (i.0.same_parents k c.requires.inside) in
    let h = subst (λ (y : ObjectId). SpreadOne y (marks u) (walk u) (marks v) (walk v)) pe c.spread_one.ensures.is in (
      ext_trans (walk w) (walk u) (walk v) i.0 c.spread_one.ensures.keeps.grows,
      c.spread_one.ensures.keeps.held,
      omega (arith, i.2, c.spread_one.ensures.keeps.pays),
      (λ t m. i.3 t (all_step ps c.loop-n.n no_id (marks u) (marks v) (walk u) (walk v) (omega (arith, c.loop-n-test.true, c.head-count.ensures.parents)) h t m)),
    )

pub returns : goal.returns
returns c =
    let w = c.args.self.now in
    let u = c.loop-n.self in
    let i = c.loop-n.invariant in
    let ps = parents_at w c.args.row in
    let e : drop c.loop-n.n ps ≡ [] = drop_all c.loop-n.n ps (omega (arith, c.head-count.ensures.parents, c.loop-n-test.false)) in
    record { is = λ t m. i.3 t (subst (λ (l : List ObjectId). Spread l (marks u) (walk u) t) (sym e) m); keeps = record { held = i.1; grows = i.0; pays = i.2 } }
