use Rattle.std.proofs.Common.{◌<◌, length, sym, refl, ap, ◌∙◌, subst, inl}
use Rattle.std.proofs.lemmas.Result.{err_from_is_err_and}
use Rattle.model.specs.Book.{SEEN, Walk}
use Rattle.model.specs.Skipping.{numbered}
use Rattle.model.specs.Steady.{Ext}
use Rattle.model.specs.View.{unpack}
use Rattle.model.proofs.Basics.{find_some}
use Rattle.model.proofs.Good.{ext_refl, ext_trans}
use Rattle.model.proofs.Runs.{stop_ext}
use Rattle.model.proofs.SkipFits.{numbered_ext}
use Rattle.model.proofs.SkipMoves.{added_there, parent_popped, parent_stuck, parent_halted, parent_marked, parent_lost, parent_hands}
use Rattle.walk.proofs.Views.{found_none, found_some}
use Rattle.skipping.specs.Seen.{walk}
use Rattle.skipping.proofs.Adding.{unseen_is, unseen_ext}
use Rattle.skipping.proofs.Algorithm.push_parent.Goals as goal

pub returns-then-has_popped : goal.returns-then-has_popped
returns-then-has_popped g c =
    let src = g.S.Source.meaning c.args.source.now in
    let m = c.args.entry in
    let s = walk c.args.self.now in
    record { is = parent_popped src (unpack m.flags.bits) m.original_ttl m.ttl c.args.id s (sym c.if-has_popped.ensures); grows = ext_refl s }

pub returns-in_err-add_unseen : goal.returns-in_err-add_unseen
returns-in_err-add_unseen g c =
    let src = g.S.Source.meaning c.args.source.now in
    let m = c.args.entry in
    let s = walk c.args.self.now in
    let t = walk c.add_unseen.new.self in
    let p = err_from_is_err_and c.from_residual.result c.from_residual.ensures.1 in
    record {
      is = rw (p.1, p.2)
          (parent_stuck src (unpack m.flags.bits) m.original_ttl m.ttl c.args.id s t _ (sym c.if-has_popped.ensures) (unseen_is src SEEN c.args.id s _ t c.in_err-add_unseen.ensures));
      grows = unseen_ext src SEEN c.args.id s _ t c.add_unseen.ensures;
    }

pub mark_common-requires : goal.mark_common-requires
mark_common-requires g c =
    let src = g.S.Source.meaning c.args.source.now in
    let s = walk c.args.self.now in
    let t = walk c.add_unseen.new.self in
    added_there src 8 c.args.id s t (inl refl) (unseen_is src SEEN c.args.id s _ t c.in_ok-add_unseen.ensures)

pub returns-in_err-mark_common : goal.returns-in_err-mark_common
returns-in_err-mark_common g c =
    let src = g.S.Source.meaning c.args.source.now in
    let m = c.args.entry in
    let s = walk c.args.self.now in
    let t = walk c.add_unseen.new.self in
    let u = walk c.mark_common.new.self in
    let p = err_from_is_err_and c.from_residual-in_err-mark_common.result c.from_residual-in_err-mark_common.ensures.1 in
    record {
      is = rw (p.1, p.2)
          (parent_halted src (unpack m.flags.bits) m.original_ttl m.ttl c.args.id s t u _ (sym c.if-has_popped.ensures) (unseen_is src SEEN c.args.id s _ t c.in_ok-add_unseen.ensures) (sym c.if-passes_common.ensures) c.in_err-mark_common.ensures.is);
      grows = ext_trans s t u (unseen_ext src SEEN c.args.id s _ t c.add_unseen.ensures) c.mark_common.ensures.grows;
    }

pub returns-then-passes_common : goal.returns-then-passes_common
returns-then-passes_common g c =
    let src = g.S.Source.meaning c.args.source.now in
    let m = c.args.entry in
    let s = walk c.args.self.now in
    let t = walk c.add_unseen.new.self in
    let u = walk c.mark_common.new.self in
    record {
      is = parent_marked src (unpack m.flags.bits) m.original_ttl m.ttl c.args.id s t u (sym c.if-has_popped.ensures) (unseen_is src SEEN c.args.id s _ t c.in_ok-add_unseen.ensures) (sym c.if-passes_common.ensures) c.in_ok-mark_common.ensures.is;
      grows = ext_trans s t u (unseen_ext src SEEN c.args.id s _ t c.add_unseen.ensures) c.mark_common.ensures.grows;
    }

pub returns-in_err-row : goal.returns-in_err-row
returns-in_err-row g c =
    let src = g.S.Source.meaning c.args.source.now in
    let m = c.args.entry in
    let s = walk c.args.self.now in
    let t = walk c.add_unseen.new.self in
    let u = walk c.parent_row.new.self in
    let p = err_from_is_err_and c.from_residual-in_err-row.result c.from_residual-in_err-row.ensures.1 in
    let h = c.in_err-row.ensures in
    record {
      is = rw (p.1, p.2, h.0)
          (parent_lost src (unpack m.flags.bits) m.original_ttl m.ttl c.args.id s t u (sym c.if-has_popped.ensures) (unseen_is src SEEN c.args.id s _ t c.in_ok-add_unseen.ensures) (sym c.if-passes_common.ensures) (found_none _ h.1) h.2);
      grows = subst (λ (w : Walk). Ext s w) (sym h.2) (ext_trans s t _ (unseen_ext src SEEN c.args.id s _ t c.add_unseen.ensures) (stop_ext t));
    }

pub renumber-requires : goal.renumber-requires
renumber-requires g c =
    let h = c.in_ok-row.ensures in
    subst (λ (w : Walk). c.in_ok-row.row < length w.rows) (sym h.1) (find_some c.args.id (walk c.add_unseen.new.self).rows c.in_ok-row.row (found_some _ _ h.0)).0

pub returns : goal.returns
returns g c =
    let src = g.S.Source.meaning c.args.source.now in
    let m = c.args.entry in
    let s = walk c.args.self.now in
    let t = walk c.add_unseen.new.self in
    let k = c.in_ok-row.row in
    let h = c.in_ok-row.ensures in
    let e = found_some _ k h.0 in
    let is = c.renumber.ensures ∙ ap (λ (w : Walk). numbered m.original_ttl m.ttl w k) h.1 in
    record {
      is = parent_hands src (unpack m.flags.bits) m.original_ttl m.ttl c.args.id s t _ k (sym c.if-has_popped.ensures) (unseen_is src SEEN c.args.id s _ t c.in_ok-add_unseen.ensures) (sym c.if-passes_common.ensures) e is;
      grows = subst (λ (w : Walk). Ext s w) (sym is) (ext_trans s t _ (unseen_ext src SEEN c.args.id s _ t c.add_unseen.ensures) (numbered_ext t k m.original_ttl m.ttl (find_some c.args.id t.rows k e).0));
    }
