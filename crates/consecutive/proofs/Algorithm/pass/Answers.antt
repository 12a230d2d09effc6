use Rattle.std.proofs.Common.{◌≡◌, List, [], drop, Ok, Err, sym, subst, arith}
use Rattle.std.proofs.lemmas.Result.{err_from_is_err_and}
use Rattle.std.proofs.lemmas.List.{drop_all}
use Rattle.source.specs.declared.ObjectId.{ObjectId}
use Rattle.book.specs.Rows.{no_id}
use Rattle.model.specs.Steps.{ok, no}
use Rattle.model.specs.Consecutive as steps
use Rattle.model.specs.Consecutive.{Pass}
use Rattle.model.specs.Parts.{PassedOne}
use Rattle.model.proofs.Good.{ext_trans}
use Rattle.model.proofs.Moves.{pass_step, pass_stop}
use Rattle.consecutive.specs.Seen.{walk, parents_at}
use Rattle.consecutive.proofs.Steps.{parent_then}
use Rattle.consecutive.proofs.Algorithm.pass.Goals as goal

pub returns-in_err-pass_one : goal.returns-in_err-pass_one
returns-in_err-pass_one g c =
    let src = g.S.Source.meaning c.args.source.now in
    let w = c.args.self.now in
    let u = walk c.loop-n.self in
    let v = walk c.pass_one.new.self in
    let i = c.loop-n.invariant in
    let d = c.in_err-pass_one.field-0.0 in
    let p = err_from_is_err_and c.from_residual.result c.from_residual.ensures.1 in
    let pe = parent_then (walk w) u c.args.row c.loop-n.n c.parent-parent.result i.0 c.requires.inside c.parent-parent.ensures in
    let h = subst (λ (y : ObjectId). PassedOne src c.args.both y u (Err d) v) pe c.in_err-pass_one.ensures.is in
    let m = i.1 (no d v) (pass_stop src c.args.both (parents_at w c.args.row) c.loop-n.n no_id u v d (omega (arith, c.loop-n-test.true, c.head-count.ensures.parents)) h) in
    record {
      is = rw (p.1, p.2) m;
      grows = ext_trans (walk w) u v i.0 c.pass_one.ensures.grows;
    }

pub loop-n-preserved : goal.loop-n-preserved
loop-n-preserved g c =
    let src = g.S.Source.meaning c.args.source.now in
    let w = c.args.self.now in
    let u = walk c.loop-n.self in
    let v = walk c.pass_one.new.self in
    let i = c.loop-n.invariant in
    let pe = parent_then (walk w) u c.args.row c.loop-n.n c.parent-parent.result i.0 c.requires.inside c.parent-parent.ensures in
    let h = subst (λ (y : ObjectId). PassedOne src c.args.both y u (Ok tt) v) pe c.in_ok-pass_one.ensures.is in (
      ext_trans (walk w) u v i.0 c.pass_one.ensures.grows,
      (λ out m. i.1 out (pass_step src c.args.both (parents_at w c.args.row) c.loop-n.n no_id u v (omega (arith, c.loop-n-test.true, c.head-count.ensures.parents)) h out m)),
    )

pub returns : goal.returns
returns g c =
    let src = g.S.Source.meaning c.args.source.now in
    let w = c.args.self.now in
    let u = walk c.loop-n.self in
    let i = c.loop-n.invariant in
    let e : drop c.loop-n.n (parents_at w c.args.row) ≡ [] = drop_all c.loop-n.n (parents_at w c.args.row) (omega (arith, c.head-count.ensures.parents, c.loop-n-test.false)) in
    record { is = i.1 (ok u) (subst (λ (l : List ObjectId). Pass src c.args.both l u (ok u)) (sym e) steps.Pass.over); grows = i.0 }
