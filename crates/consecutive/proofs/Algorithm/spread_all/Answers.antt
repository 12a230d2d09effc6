use Rattle.std.proofs.Common.{◌≡◌, Bool, List, [], drop, Ok, Err, sym, subst, arith}
use Rattle.std.proofs.lemmas.List.{drop_all}
use Rattle.std.proofs.lemmas.Result.{err_from_is_err_and}
use Rattle.source.specs.declared.ObjectId.{ObjectId}
use Rattle.book.specs.Rows.{no_id}
use Rattle.model.specs.Steps.{no}
use Rattle.model.specs.Consecutive.{Marking}
use Rattle.model.specs.Parts.{SpreadOne}
use Rattle.model.proofs.Good.{ext_trans}
use Rattle.model.proofs.Moves.{spread_step, spread_stop}
use Rattle.consecutive.specs.Seen.{walk, marks, parents_at}
use Rattle.consecutive.proofs.Steps.{parent_then}
use Rattle.consecutive.proofs.Algorithm.spread_all.Goals as goal

pub spread_one-requires : goal.spread_one-requires
spread_one-requires g c = let i = c.loop-n.invariant in record { held = i.1; young = omega (arith, c.requires.young, i.0.commons) }

pub returns-in_err-spread_one : goal.returns-in_err-spread_one
returns-in_err-spread_one g c =
    let src = g.S.Source.meaning c.args.source.now in
    let w = c.args.self.now in
    let u = c.loop-n.self in
    let v = c.spread_one.new.self in
    let i = c.loop-n.invariant in
    let d = c.in_err-spread_one.field-0.0 in
    let p = err_from_is_err_and c.from_residual.result c.from_residual.ensures.1 in
    let pe = parent_then (walk w) (walk u) c.args.row c.loop-n.n c.parent-parent.result i.0 c.requires.inside c.parent-parent.ensures in
    let h = subst (λ (y : ObjectId). SpreadOne src c.args.generation y (marks u) (walk u) (Err d) (marks v) (walk v)) pe c.in_err-spread_one.ensures.is in
    let m = λ (all : Bool). i.3 all (no d (walk v)) (spread_stop src c.args.generation (parents_at w c.args.row) c.loop-n.n no_id no_id (marks u) (marks v) (walk u) (walk v) d (omega (arith, c.loop-n-test.true, c.head-count.ensures.parents)) h all) in
    record {
      is = rw (p.1, p.2) m;
      keeps = record { held = c.spread_one.ensures.keeps.held; grows = ext_trans (walk w) (walk u) (walk v) i.0 c.spread_one.ensures.keeps.grows; pays = omega (arith, i.2, c.spread_one.ensures.keeps.pays) };
    }

pub loop-n-preserved : goal.loop-n-preserved
loop-n-preserved g c =
    let src = g.S.Source.meaning c.args.source.now in
    let w = c.args.self.now in
    let u = c.loop-n.self in
    let v = c.spread_one.new.self in
    let i = c.loop-n.invariant in
    let pe = parent_then (walk w) (walk u) c.args.row c.loop-n.n c.parent-parent.result i.0 c.requires.inside c.parent-parent.ensures in
    let h = subst (λ (y : ObjectId). SpreadOne src c.args.generation y (marks u) (walk u) (Ok tt) (marks v) (walk v)) pe c.in_ok-spread_one.ensures.is in (
      ext_trans (walk w) (walk u) (walk v) i.0 c.spread_one.ensures.keeps.grows,
      c.spread_one.ensures.keeps.held,
      omega (arith, i.2, c.spread_one.ensures.keeps.pays),
      (λ all out m. i.3 all out (spread_step src c.args.generation (parents_at w c.args.row) c.loop-n.n no_id (marks u) (marks v) (walk u) (walk v) (omega (arith, c.loop-n-test.true, c.head-count.ensures.parents)) h all out m)),
    )

pub returns : goal.returns
returns g c =
    let src = g.S.Source.meaning c.args.source.now in
    let w = c.args.self.now in
    let u = c.loop-n.self in
    let i = c.loop-n.invariant in
    let e : drop c.loop-n.n (parents_at w c.args.row) ≡ [] = drop_all c.loop-n.n (parents_at w c.args.row) (omega (arith, c.head-count.ensures.parents, c.loop-n-test.false)) in
    record { is = λ all out m. i.3 all out (subst (λ (l : List ObjectId). Marking src all c.args.generation l (marks u) (walk u) out) (sym e) m); keeps = record { held = i.1; grows = i.0; pays = i.2 } }
