use Rattle.std.proofs.Common.{◌≡◌, ◌≤◌, length, ap, arith}
use Rattle.std.proofs.lemmas.Result.{err_from_is_err_and}
use Rattle.model.specs.declared.Reply.TheVariants.{Have, Denied}
use Rattle.model.specs.declared.Turn.{Turn}
use Rattle.model.specs.Book.{Walk, row}
use Rattle.model.specs.Parts.{Took}
use Rattle.model.specs.Steady.{Fit, Ext, seen_rows}
use Rattle.model.proofs.Fits.{taken_long, seens_rows}
use Rattle.model.proofs.Moves.{next_stops, next_answers, next_goes_on, took_less}
use Rattle.walk.proofs.Keeps.{fits_le}
use Rattle.consecutive.specs.Seen.{walk}
use Rattle.consecutive.proofs.Algorithm.next.Goals as goal

same : (s t : Walk) (r : Turn) → Took s r t → Ext s t → (row t r.row).parents ≡ (row s r.row).parents
same s t r T x = x.same_parents r.row (omega (arith, T.inside, ap (λ (y : Walk). length y.rows) T.is, taken_long s r.row T.rest))

pub returns-in_err-pass : goal.returns-in_err-pass
returns-in_err-pass g c =
    let src = g.S.Source.meaning c.args.source.now in
    let u = walk c.loop-turn.self in
    let v = walk c.draw_row.new.self in
    let z = walk c.pass.new.self in
    let r = c.in-Some.turn in
    let T = c.in-Some.ensures.is in
    let d = c.in_err-pass.field-0.0 in
    let p = err_from_is_err_and c.from_residual.result c.from_residual.ensures.1 in
    let n = c.loop-turn.invariant (Denied d) z (next_stops src u v r T z d (same u v r T c.draw_row.ensures.grows) c.in_err-pass.ensures.is) in
    record { is = rw (p.1, p.2) n }

pub loop-turn-smaller : goal.loop-turn-smaller
loop-turn-smaller g c =
    let src = g.S.Source.meaning c.args.source.now in
    let u = walk c.loop-turn.self in
    let v = walk c.draw_row.new.self in
    let z = walk c.pass.new.self in
    let r = c.in-Some.turn in
    let T = c.in-Some.ensures.is in
    let less = took_less src u v r T in
    let w = c.pass.new.self in
    let b : seen_rows z ≤ z.most_rows = fits_le Fit w.state _ _ w.fit (λ F. seens_rows z _ _ _ F) in
    let x = c.draw_row.ensures.grows in
    let y = c.pass.ensures.grows in
    omega (arith, less, b, x.seens, x.most, y.pays, y.seens, y.most)

pub loop-turn-preserved : goal.loop-turn-preserved
loop-turn-preserved g c a t n =
    let src = g.S.Source.meaning c.args.source.now in
    let u = walk c.loop-turn.self in
    let v = walk c.draw_row.new.self in
    let z = walk c.pass.new.self in
    let r = c.in-Some.turn in
    let T = c.in-Some.ensures.is in
    c.loop-turn.invariant a t (next_goes_on src u v r T z (same u v r T c.draw_row.ensures.grows) c.in_ok-pass.ensures.is c.if-turn.false a t n)

pub returns-then-turn : goal.returns-then-turn
returns-then-turn g c =
    let src = g.S.Source.meaning c.args.source.now in
    let u = walk c.loop-turn.self in
    let v = walk c.draw_row.new.self in
    let z = walk c.pass.new.self in
    let r = c.in-Some.turn in
    let T = c.in-Some.ensures.is in
    record { is = c.loop-turn.invariant (Have r.row) z (next_answers src u v r T z (same u v r T c.draw_row.ensures.grows) c.in_ok-pass.ensures.is c.if-turn.true) }
