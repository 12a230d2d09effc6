use Rattle.std.proofs.Common.{Some, None, Ok, Err, sym, subst}
use Rattle.std.proofs.lemmas.Result.{err_from_is_err_and}
use Rattle.model.specs.Book.{Walk}
use Rattle.model.specs.Skipping.{queued}
use Rattle.model.specs.Steady.{Ext}
use Rattle.model.specs.View.{unpack}
use Rattle.model.proofs.Fits.{looks_ext, lookup_ext}
use Rattle.model.proofs.Good.{ext_trans}
use Rattle.model.proofs.Runs.{unseen_row}
use Rattle.model.proofs.SkipFits.{queued_ext}
use Rattle.model.proofs.SkipMoves.{add_err, add_none, add_some}
use Rattle.walk.proofs.Views.{looks_as}
use Rattle.skipping.specs.Seen.{walk}
use Rattle.skipping.proofs.Algorithm.add_to_queue.Goals as goal

pub returns-in_err-row : goal.returns-in_err-row
returns-in_err-row g c =
    let src = g.S.Source.meaning c.args.source.now in
    let s = walk c.args.self.now in
    let t = walk c.lookup.new.self in
    let l = c.in_err-row.ensures.is in
    let p = err_from_is_err_and c.from_residual.result c.from_residual.ensures.1 in
    record {
      is = rw (p.1, p.2) (add_err src (unpack c.args.mask.bits) c.args.id s t _ l);
      grows = looks_ext src s c.args.id t (Err c.in_err-row.field-0.0) l;
    }

pub returns-in_default : goal.returns-in_default
returns-in_default g c =
    let src = g.S.Source.meaning c.args.source.now in
    let s = walk c.args.self.now in
    let t = walk c.lookup.new.self in
    let l = looks_as src s c.args.id t _ None c.in_default.is c.in_ok-row.ensures.is in
    record { is = add_none src (unpack c.args.mask.bits) c.args.id s t l; grows = looks_ext src s c.args.id t (Ok None) l }

pub enter-requires : goal.enter-requires
enter-requires g c =
    let src = g.S.Source.meaning c.args.source.now in
    let s = walk c.args.self.now in
    let t = walk c.lookup.new.self in
    let k = c.in-Some.row in
    let l = looks_as src s c.args.id t _ (Some k) c.in-Some.is c.in_ok-row.ensures.is in
    record { inside = (lookup_ext src s c.args.id k t l).1; adds = c.requires.adds; unseen = unseen_row src s c.args.id k t c.requires.unseen l }

pub returns : goal.returns
returns g c =
    let src = g.S.Source.meaning c.args.source.now in
    let s = walk c.args.self.now in
    let t = walk c.lookup.new.self in
    let k = c.in-Some.row in
    let m = c.args.mask.bits in
    let l = looks_as src s c.args.id t _ (Some k) c.in-Some.is c.in_ok-row.ensures.is in
    let x = lookup_ext src s c.args.id k t l in
    record {
      is = add_some src (unpack m) c.args.id s t _ k l c.enter.ensures;
      grows = subst (λ (u : Walk). Ext s u) (sym c.enter.ensures) (ext_trans s t (queued (unpack m) t k) x.0 (queued_ext t k m x.1 c.requires.adds (unseen_row src s c.args.id k t c.requires.unseen l)));
    }
