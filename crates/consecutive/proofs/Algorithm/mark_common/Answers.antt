use Rattle.std.proofs.Common.{rules, ◌≡◌, ◌<◌, false, [], length, Some, None, Ok, Err, sym, ap, ◌∙◌, subst}
use Rattle.std.proofs.lemmas.Result.{err_from_is_err_and}
use Rattle.model.specs.Book.{Flags, Walk, flags_at}
use Rattle.model.specs.Consecutive as steps
use Rattle.model.specs.Consecutive.{Mark, Marking, commoned}
use Rattle.model.specs.Parts.{ended}
use Rattle.model.specs.Steady.{Ext}
use Rattle.model.proofs.Fits.{looks_ext, lookup_ext, common_ext}
use Rattle.model.proofs.Good.{ext_trans}
use Rattle.model.proofs.Moves.{mark_err, mark_none, mark_with, mark_without}
use Rattle.walk.proofs.Views.{looks_as}
use Rattle.consecutive.specs.Seen.{walk, marks, itself, all}
use Rattle.consecutive.proofs.Keeps.{held_quiet}
use Rattle.consecutive.proofs.Algorithm.mark_common.Goals as goal

pub returns-in_err-row : goal.returns-in_err-row
returns-in_err-row g c =
    let src = g.S.Source.meaning c.args.source.now in
    let w = c.args.self.now in
    let t = walk c.lookup.new.self in
    let l = c.in_err-row.ensures.is in
    let p = err_from_is_err_and c.from_residual.result c.from_residual.ensures.1 in
    record {
      is = rw (p.1, p.2) (mark_err src (itself c.args.mode) (all c.args.ancestors) c.args.id (walk w) t _ l);
      grows = looks_ext src (walk w) c.args.id t (Err c.in_err-row.field-0.0) l;
    }

pub returns-in_default : goal.returns-in_default
returns-in_default g c =
    let src = g.S.Source.meaning c.args.source.now in
    let w = c.args.self.now in
    let t = walk c.lookup.new.self in
    let l = looks_as src (walk w) c.args.id t _ None c.in_default.is c.in_ok-row.ensures.is in
    record { is = mark_none src (itself c.args.mode) (all c.args.ancestors) c.args.id (walk w) t l; grows = looks_ext src (walk w) c.args.id t (Ok None) l }

pub returns-then-intersects : goal.returns-then-intersects
returns-then-intersects g c =
    let src = g.S.Source.meaning c.args.source.now in
    let w = c.args.self.now in
    let t = walk c.lookup.new.self in
    let k = c.in-Some.row in
    let l = looks_as src (walk w) c.args.id t _ (Some k) c.in-Some.is c.in_ok-row.ensures.is in
    let common = sym (ap (λ (f : Flags). f.common) c.head.ensures.flags) ∙ sym c.if-intersects.ensures in
    record { is = steps.Mark.already l common; grows = looks_ext src (walk w) c.args.id t (Ok (Some k)) l }

pub begin_marking-requires : goal.begin_marking-requires
begin_marking-requires g c =
    let src = g.S.Source.meaning c.args.source.now in
    let w = c.args.self.now in
    let t = walk c.lookup.new.self in
    let k = c.in-Some.row in
    let l = looks_as src (walk w) c.args.id t _ (Some k) c.in-Some.is c.in_ok-row.ensures.is in
    let common = sym (ap (λ (f : Flags). f.common) c.head.ensures.flags) ∙ sym c.if-intersects.ensures in
    (lookup_ext src (walk w) c.args.id k t l).1

pub make_common-requires : goal.make_common-requires
make_common-requires g c =
    let src = g.S.Source.meaning c.args.source.now in
    let w = c.args.self.now in
    let t = walk c.lookup.new.self in
    let k = c.in-Some.row in
    let l = looks_as src (walk w) c.args.id t _ (Some k) c.in-Some.is c.in_ok-row.ensures.is in
    let common = sym (ap (λ (f : Flags). f.common) c.head.ensures.flags) ∙ sym c.if-intersects.ensures in
    let e = c.begin_marking.ensures.same in
    record { inside = subst (λ (s : Walk). k < length s.rows) (sym e) (lookup_ext src (walk w) c.args.id k t l).1; lacks = subst (λ (s : Walk). (flags_at s k).common ≡ false) (sym e) common }

pub spread-requires : goal.spread-requires
spread-requires g c =
    let src = g.S.Source.meaning c.args.source.now in
    let w = c.args.self.now in
    let t = walk c.lookup.new.self in
    let k = c.in-Some.row in
    let l = looks_as src (walk w) c.args.id t _ (Some k) c.in-Some.is c.in_ok-row.ensures.is in
    let common = sym (ap (λ (f : Flags). f.common) c.head.ensures.flags) ∙ sym c.if-intersects.ensures in
    let b = c.begin_marking.new.self in
    let u = c.make_common.new.self in
    let i = subst (λ (s : Walk). k < length s.rows) (sym c.begin_marking.ensures.same) (lookup_ext src (walk w) c.args.id k t l).1 in
    record { held = (held_quiet b.state u.state 1 c.make_common.ensures.quiet (subst (λ (s : Walk). Ext (walk b) s) (sym c.make_common.ensures.is) (common_ext (walk b) k i)) c.begin_marking.ensures.held).0 }

pub returns-then-eq : goal.returns-then-eq
returns-then-eq g c =
    let src = g.S.Source.meaning c.args.source.now in
    let w = c.args.self.now in
    let t = walk c.lookup.new.self in
    let k = c.in-Some.row in
    let l = looks_as src (walk w) c.args.id t _ (Some k) c.in-Some.is c.in_ok-row.ensures.is in
    let common = sym (ap (λ (f : Flags). f.common) c.head.ensures.flags) ∙ sym c.if-intersects.ensures in
    let b = c.begin_marking.new.self in
    let u = c.make_common.new.self in
    let e : walk u ≡ commoned t k = c.make_common.ensures.is ∙ ap (λ (s : Walk). commoned s k) c.begin_marking.ensures.same in
    record {
      is = mark_with src (itself c.args.mode) (all c.args.ancestors) c.args.id (walk w) t (walk u) (marks u) k _ (search rules) l common e (c.make_common.ensures.quiet.aside.marks ∙ c.begin_marking.ensures.is) (c.spread.ensures.is 0);
      grows = ext_trans (walk w) t (walk c.spread.new.self) (looks_ext src (walk w) c.args.id t (Ok (Some k)) l) (ext_trans t (walk u) (walk c.spread.new.self) (subst (λ (s : Walk). Ext t s) (sym e) (common_ext t k (lookup_ext src (walk w) c.args.id k t l).1)) c.spread.ensures.grows);
    }

pub returns : goal.returns
returns g c =
    let src = g.S.Source.meaning c.args.source.now in
    let w = c.args.self.now in
    let t = walk c.lookup.new.self in
    let k = c.in-Some.row in
    let l = looks_as src (walk w) c.args.id t _ (Some k) c.in-Some.is c.in_ok-row.ensures.is in
    let common = sym (ap (λ (f : Flags). f.common) c.head.ensures.flags) ∙ sym c.if-intersects.ensures in
    let b = c.begin_marking.new.self in
    let e = c.begin_marking.ensures.same in
    let v = walk c.spread-2.new.self in
    let reach = all c.args.ancestors in
    record {
      is = mark_without src (itself c.args.mode) reach c.args.id (walk w) t (marks b) k _ (search rules) l common c.begin_marking.ensures.is (subst (λ (s : Walk). Marking src reach 0 [] (marks b) s (ended c.spread-2.result v)) e (c.spread-2.ensures.is 0));
      grows = ext_trans (walk w) t v (looks_ext src (walk w) c.args.id t (Ok (Some k)) l) (subst (λ (s : Walk). Ext s v) e c.spread-2.ensures.grows);
    }
