use Rattle.std.proofs.Common.{◌≡◌, List, [], get_or, drop, Ok, Err, ap, ◌∙◌, subst, arith}
use Rattle.std.proofs.lemmas.List.{drop_all}
use Rattle.std.proofs.lemmas.Result.{err_from_is_err_and}
use Rattle.source.specs.declared.ObjectId.{ObjectId}
use Rattle.book.specs.Rows.{no_id}
use Rattle.model.specs.SkipParts.{Pushed}
use Rattle.model.specs.View.{unpack}
use Rattle.model.proofs.Good.{ext_refl, ext_trans}
use Rattle.model.proofs.SkipMoves.{hand_start, hand_step, hand_stop, hand_end}
use Rattle.skipping.specs.Seen.{walk, parents_at}
use Rattle.skipping.proofs.Algorithm.push_parents.Goals as goal

pub loop-n-init : goal.loop-n-init
loop-n-init g c =
    let src = g.S.Source.meaning c.args.source.now in
    let m = c.args.metadata in
    let w = c.args.self.now in
    (ext_refl (walk w), hand_start src (unpack m.flags.bits) m.original_ttl m.ttl (parents_at w c.args.row) (walk w))

pub returns-in_err-pushed : goal.returns-in_err-pushed
returns-in_err-pushed g c =
    let src = g.S.Source.meaning c.args.source.now in
    let m = c.args.metadata in
    let w = c.args.self.now in
    let u = c.loop-n.self in
    let v = c.push_parent.new.self in
    let k = c.args.row in
    let i = c.loop-n.invariant in
    let ps = parents_at w k in
    let n = c.loop-n.n in
    let d = c.in_err-pushed.field-0.0 in
    let pe : c.parent-parent.result ≡ get_or ps n no_id = c.parent-parent.ensures ∙ ap (λ (l : List ObjectId). get_or l n no_id) (i.0.same_parents k c.requires) in
    let h = subst (λ (y : ObjectId). Pushed src (unpack m.flags.bits) m.original_ttl m.ttl y (walk u) (Err d) (walk v)) pe c.in_err-pushed.ensures.is in
    let p = err_from_is_err_and c.from_residual.result c.from_residual.ensures.1 in
    record {
      is = rw (p.1, p.2)
          (hand_stop src (unpack m.flags.bits) m.original_ttl m.ttl ps (walk w) c.loop-n.pushed n no_id (walk u) (walk v) d (omega (arith, c.loop-n-test.true, c.head-count.ensures.parents)) i.1 h);
      grows = ext_trans (walk w) (walk u) (walk v) i.0 c.push_parent.ensures.grows;
    }

pub loop-n-preserved : goal.loop-n-preserved
loop-n-preserved g c =
    let src = g.S.Source.meaning c.args.source.now in
    let m = c.args.metadata in
    let w = c.args.self.now in
    let u = c.loop-n.self in
    let v = c.push_parent.new.self in
    let k = c.args.row in
    let i = c.loop-n.invariant in
    let ps = parents_at w k in
    let n = c.loop-n.n in
    let b = c.in_ok-pushed.field-0 in
    let pe : c.parent-parent.result ≡ get_or ps n no_id = c.parent-parent.ensures ∙ ap (λ (l : List ObjectId). get_or l n no_id) (i.0.same_parents k c.requires) in
    let h = subst (λ (y : ObjectId). Pushed src (unpack m.flags.bits) m.original_ttl m.ttl y (walk u) (Ok b) (walk v)) pe c.in_ok-pushed.ensures.is in (
      ext_trans (walk w) (walk u) (walk v) i.0 c.push_parent.ensures.grows,
      hand_step src (unpack m.flags.bits) m.original_ttl m.ttl ps (walk w) c.loop-n.pushed b n no_id (walk u) (walk v) (omega (arith, c.loop-n-test.true, c.head-count.ensures.parents)) i.1 h,
    )

pub returns : goal.returns
returns g c =
    let src = g.S.Source.meaning c.args.source.now in
    let m = c.args.metadata in
    let w = c.args.self.now in
    let u = c.loop-n.self in
    let i = c.loop-n.invariant in
    let ps = parents_at w c.args.row in
    let n = c.loop-n.n in
    let e : drop n ps ≡ [] = drop_all n ps (omega (arith, c.head-count.ensures.parents, c.loop-n-test.false)) in
    record { is = hand_end src (unpack m.flags.bits) m.original_ttl m.ttl ps (walk w) c.loop-n.pushed (drop n ps) (walk u) e i.1; grows = i.0 }
