use Rattle.std.proofs.Common.{◌≡◌, ℕ, ◌≤◌, length, sym, ap, arith}
use Rattle.std.proofs.lemmas.Result.{err_from_is_err_and}
use Rattle.model.specs.Book.{Flags, Walk, row}
use Rattle.model.specs.SkipParts.{Took}
use Rattle.model.specs.Steady.{SkipFit, Ext, seen_rows}
use Rattle.model.specs.View.{unpack}
use Rattle.model.proofs.Fits.{taken_long}
use Rattle.model.proofs.SkipFits.{seens_rows}
use Rattle.model.proofs.SkipMoves.{next_stops, next_answers, next_goes_on, took_less}
use Rattle.walk.proofs.Keeps.{fits_le}
use Rattle.skipping.specs.Seen.{walk}
use Rattle.skipping.proofs.Algorithm.next.Goals as goal

same : (s t : Walk) (k : ℕ) (f : Flags) (o l : ℕ) → Took s k f o l t → Ext s t → (row t k).parents ≡ (row s k).parents
same s t k f o l T x = x.same_parents k (omega (arith, T.inside, ap (λ (y : Walk). length y.rows) T.is, taken_long s k T.rest))

pub returns-in_err-pushed : goal.returns-in_err-pushed
returns-in_err-pushed g c =
    let src = g.S.Source.meaning c.args.source.now in
    let w = walk c.args.self.now in
    let s = walk c.loop-turn.self in
    let t = walk c.draw_row.new.self in
    let v = walk c.push_parents.new.self in
    let r = c.in-Some.turn in
    let m = r.had in
    let T = c.in-Some.ensures.is in
    let p = err_from_is_err_and c.from_residual.result c.from_residual.ensures.1 in
    rw (p.1, p.2)
    (c.loop-turn.invariant _ v (next_stops src s t r.row (unpack m.flags.bits) m.original_ttl m.ttl T v _ (same s t r.row _ _ _ T c.in-Some.ensures.grows) c.in_err-pushed.ensures.is))

pub returns-then-is_offered : goal.returns-then-is_offered
returns-then-is_offered g c =
    let src = g.S.Source.meaning c.args.source.now in
    let s = walk c.loop-turn.self in
    let t = walk c.draw_row.new.self in
    let v = walk c.push_parents.new.self in
    let r = c.in-Some.turn in
    let m = r.had in
    let T = c.in-Some.ensures.is in
    c.loop-turn.invariant _ v (next_answers src s t r.row (unpack m.flags.bits) m.original_ttl m.ttl T v c.in_ok-pushed.pushed (same s t r.row _ _ _ T c.in-Some.ensures.grows) c.in_ok-pushed.ensures.is (sym c.if-is_offered.ensures))

pub loop-turn-preserved : goal.loop-turn-preserved
loop-turn-preserved g c =
    let src = g.S.Source.meaning c.args.source.now in
    let s = walk c.loop-turn.self in
    let t = walk c.draw_row.new.self in
    let v = walk c.push_parents.new.self in
    let r = c.in-Some.turn in
    let m = r.had in
    let T = c.in-Some.ensures.is in
    λ a x n. c.loop-turn.invariant a x (next_goes_on src s t r.row (unpack m.flags.bits) m.original_ttl m.ttl T v c.in_ok-pushed.pushed (same s t r.row _ _ _ T c.in-Some.ensures.grows) c.in_ok-pushed.ensures.is (sym c.if-is_offered.ensures) a x n)

pub loop-turn-smaller : goal.loop-turn-smaller
loop-turn-smaller g c =
    let src = g.S.Source.meaning c.args.source.now in
    let s = walk c.loop-turn.self in
    let t = walk c.draw_row.new.self in
    let u = c.push_parents.new.self in
    let v = walk u in
    let r = c.in-Some.turn in
    let m = r.had in
    let T = c.in-Some.ensures.is in
    let x = c.in-Some.ensures.grows in
    let y = c.push_parents.ensures.grows in
    let b : seen_rows v ≤ v.most_rows = fits_le SkipFit u.state _ _ u.fit (λ F. seens_rows v _ _ _ F) in
    omega (arith, b, x.most, y.most, x.pays, x.seens, y.pays, y.seens, took_less src s t r.row (unpack m.flags.bits) m.original_ttl m.ttl T)
