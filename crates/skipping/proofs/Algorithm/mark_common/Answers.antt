use Rattle.std.proofs.Common.{Some, None, Ok, Err, sym, ap, ◌∙◌}
use Rattle.std.proofs.lemmas.Result.{err_from_is_err_and}
use Rattle.model.specs.Book.{Flags}
use Rattle.model.proofs.Fits.{looks_ext, lookup_ext}
use Rattle.model.proofs.Good.{ext_trans}
use Rattle.model.proofs.SkipMoves.{mark_err, mark_none, mark_had}
use Rattle.walk.proofs.Views.{looks_as}
use Rattle.skipping.specs.Seen.{walk}
use Rattle.skipping.proofs.Begins.{space, number, held, marked, ext}
use Rattle.skipping.proofs.Algorithm.mark_common.Goals as goal

pub returns-in_err-row : goal.returns-in_err-row
returns-in_err-row g c =
    let src = g.S.Source.meaning c.args.source.now in
    let s = walk c.args.self.now in
    let t = walk c.lookup.new.self in
    let l = c.in_err-row.ensures.is in
    let p = err_from_is_err_and c.from_residual.result c.from_residual.ensures.1 in
    record {
      is = rw (p.1, p.2) (mark_err src c.args.id s t _ l);
      grows = looks_ext src s c.args.id t (Err c.in_err-row.field-0.0) l;
    }

pub returns-in_default : goal.returns-in_default
returns-in_default g c =
    let src = g.S.Source.meaning c.args.source.now in
    let s = walk c.args.self.now in
    let t = walk c.lookup.new.self in
    let l = looks_as src s c.args.id t _ None c.in_default.is c.in_ok-row.ensures.is in
    record { is = mark_none src c.args.id s t l; grows = looks_ext src s c.args.id t (Ok None) l }

pub returns-then-intersects : goal.returns-then-intersects
returns-then-intersects g c =
    let src = g.S.Source.meaning c.args.source.now in
    let s = walk c.args.self.now in
    let t = walk c.lookup.new.self in
    let k = c.in-Some.row in
    let l = looks_as src s c.args.id t _ (Some k) c.in-Some.is c.in_ok-row.ensures.is in
    record { is = mark_had src c.args.id s t k l (sym (ap (λ (f : Flags). f.common) c.head.ensures.flags) ∙ sym c.if-intersects.ensures); grows = (lookup_ext src s c.args.id k t l).0 }

pub make_common-requires : goal.make_common-requires
make_common-requires g c =
    let src = g.S.Source.meaning c.args.source.now in
    let s = walk c.args.self.now in
    let t = walk c.lookup.new.self in
    let k = c.in-Some.row in
    let l = looks_as src s c.args.id t _ (Some k) c.in-Some.is c.in_ok-row.ensures.is in
    record { inside = (lookup_ext src s c.args.id k t l).1; lacks = sym (ap (λ (f : Flags). f.common) c.head.ensures.flags) ∙ sym c.if-intersects.ensures }

pub enqueue_mark-requires : goal.enqueue_mark-requires
enqueue_mark-requires g c =
    let src = g.S.Source.meaning c.args.source.now in
    let s = c.args.self.now in
    let t = c.lookup.new.self in
    let u = c.make_common.new.self in
    let v = c.clear_marks.new.self in
    let k = c.in-Some.row in
    let l = looks_as src (walk s) c.args.id (walk t) _ (Some k) c.in-Some.is c.in_ok-row.ensures.is in
    let un = sym (ap (λ (f : Flags). f.common) c.head.ensures.flags) ∙ sym c.if-intersects.ensures in
    let cl = c.clear_marks.ensures in
    record {
      space = space src c.args.id s.state t.state u.state v v k l un c.make_common.ensures.is cl.is cl.only.same cl.number t.fit c.make_common.ensures.quiet cl.only.rooms;
      number = number src c.args.id s.state t.state u.state v v k l un c.make_common.ensures.is cl.is cl.only.same cl.number;
    }

pub spread-requires : goal.spread-requires
spread-requires g c =
    let src = g.S.Source.meaning c.args.source.now in
    let s = c.args.self.now in
    let t = c.lookup.new.self in
    let u = c.make_common.new.self in
    let v = c.clear_marks.new.self in
    let w = c.enqueue_mark.new.self in
    let k = c.in-Some.row in
    let l = looks_as src (walk s) c.args.id (walk t) _ (Some k) c.in-Some.is c.in_ok-row.ensures.is in
    let un = sym (ap (λ (f : Flags). f.common) c.head.ensures.flags) ∙ sym c.if-intersects.ensures in
    let cl = c.clear_marks.ensures in
    let en = c.enqueue_mark.ensures in
    held src c.args.id s.state t.state u.state v w k l un c.make_common.ensures.is cl.is cl.only.same cl.number en.is en.only.same t.fit (c.requires k (walk t) l) en.number

pub returns : goal.returns
returns g c =
    let src = g.S.Source.meaning c.args.source.now in
    let s = c.args.self.now in
    let t = c.lookup.new.self in
    let u = c.make_common.new.self in
    let v = c.clear_marks.new.self in
    let w = c.enqueue_mark.new.self in
    let k = c.in-Some.row in
    let l = looks_as src (walk s) c.args.id (walk t) _ (Some k) c.in-Some.is c.in_ok-row.ensures.is in
    let un = sym (ap (λ (f : Flags). f.common) c.head.ensures.flags) ∙ sym c.if-intersects.ensures in
    let cl = c.clear_marks.ensures in
    let en = c.enqueue_mark.ensures in
    record {
      is = marked src c.args.id s.state t.state u.state v w k l un c.make_common.ensures.is cl.is cl.only.same cl.number en.is en.only.same _ c.spread.ensures.is;
      grows = ext_trans (walk s) _ _ (ext src c.args.id s.state t.state u.state v w k l un c.make_common.ensures.is cl.is cl.only.same cl.number en.is en.only.same) c.spread.ensures.grows;
    }
