use Rattle.std.proofs.Common.{Some, None, Ok, Err, sym, subst}
use Rattle.std.proofs.lemmas.Result.{err_from_is_err_and}
use Rattle.model.specs.Book.{Walk}
use Rattle.model.specs.Consecutive.{entered}
use Rattle.model.specs.Steady.{Ext}
use Rattle.model.specs.View.{unpack}
use Rattle.model.proofs.Fits.{looks_ext, lookup_ext, admit_ext}
use Rattle.model.proofs.Good.{ext_trans}
use Rattle.model.proofs.Moves.{push_err, push_none, push_some, may_push}
use Rattle.walk.proofs.Views.{looks_as}
use Rattle.consecutive.specs.Seen.{walk}
use Rattle.consecutive.proofs.Algorithm.push.Goals as goal

pub returns-in_err-row : goal.returns-in_err-row
returns-in_err-row g c =
    let src = g.S.Source.meaning c.args.source.now in
    let s = walk c.args.self.now in
    let t = walk c.lookup.new.self in
    let l = c.in_err-row.ensures.is in
    let p = err_from_is_err_and c.from_residual.result c.from_residual.ensures.1 in
    record {
      is = rw (p.1, p.2) (push_err src (unpack c.args.mask.bits) c.args.id s t _ l);
      grows = looks_ext src s c.args.id t (Err c.in_err-row.field-0.0) l;
    }

pub returns-in_default : goal.returns-in_default
returns-in_default g c =
    let src = g.S.Source.meaning c.args.source.now in
    let s = walk c.args.self.now in
    let t = walk c.lookup.new.self in
    let l = looks_as src s c.args.id t _ None c.in_default.is c.in_ok-row.ensures.is in
    record { is = push_none src (unpack c.args.mask.bits) c.args.id s t l; grows = looks_ext src s c.args.id t (Ok None) l }

pub admit-requires : goal.admit-requires
admit-requires g c =
    let src = g.S.Source.meaning c.args.source.now in
    let s = walk c.args.self.now in
    let t = walk c.lookup.new.self in
    let l = looks_as src s c.args.id t _ (Some c.in-Some.row) c.in-Some.is c.in_ok-row.ensures.is in
    record { inside = (lookup_ext src s c.args.id c.in-Some.row t l).1; admits = may_push src s t c.args.id c.in-Some.row c.args.mask.bits c.requires l }

pub returns : goal.returns
returns g c =
    let src = g.S.Source.meaning c.args.source.now in
    let s = walk c.args.self.now in
    let t = walk c.lookup.new.self in
    let k = c.in-Some.row in
    let l = looks_as src s c.args.id t _ (Some k) c.in-Some.is c.in_ok-row.ensures.is in
    let x = lookup_ext src s c.args.id k t l in
    record {
      is = push_some src (unpack c.args.mask.bits) c.args.id s t _ k l c.admit.ensures.is;
      grows = subst (λ (u : Walk). Ext s u) (sym c.admit.ensures.is) (ext_trans s t (entered (unpack c.args.mask.bits) t k) x.0 (admit_ext t k c.args.mask.bits x.1 (may_push src s t c.args.id k c.args.mask.bits c.requires l)));
    }
