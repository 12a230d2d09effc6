use Rattle.std.proofs.Common.{not, ap}
use Rattle.model.specs.Steady.{Fit}
use Rattle.model.proofs.Fits.{drawn_inside, spent_fit, taken_fit}
use Rattle.walk.specs.View.{view}
use Rattle.walk.proofs.Draws.{draw_fits, inside, none_ext, popped_ext}
use Rattle.consecutive.proofs.Draws.{none_is, took}
use Rattle.consecutive.proofs.Algorithm.draw_row.Goals as goal

pub invariant_of-self : goal.invariant_of-self
invariant_of-self c = record { fit = draw_fits Fit spent_fit taken_fit c.args.self.now.state c.draw.new.self c.draw.result c.args.self.now.fit c.draw.ensures.quiet c.draw.ensures.is }

pub returns-in_err-drawn : goal.returns-in_err-drawn
returns-in_err-drawn c = record { is = rw c.from_residual.ensures (none_is _ _ c.in_err-drawn.ensures.is); grows = none_ext _ _ c.in_err-drawn.ensures.is }

pub returns : goal.returns
returns c =
    let s = c.args.self.now in
    let t = view c.draw.new.self in
    let d = c.in_ok-drawn.drawn in
    let P = c.in_ok-drawn.ensures.is in
    record { is = took s.state d t _ _ s.fit P (ap not c.intersects.ensures) c.passes_both.ensures; grows = popped_ext (view s.state) d t P (inside Fit drawn_inside s.state t d s.fit P) }
