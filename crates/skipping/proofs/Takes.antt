-- A row is drawn, in the words of the rules.
use Rattle.std.proofs.Common.{Some, None, Option, sym, subst, inl, inr}
use Rattle.model.specs.declared.Reply.TheVariants.{NoneLeft}
use Rattle.model.specs.Book.{Walk, Source}
use Rattle.model.specs.Skipping as steps
use Rattle.model.specs.Skipping.{Next}
use Rattle.model.specs.SkipParts.{Took}
use Rattle.model.specs.Steady.{SkipFit, Ext}
use Rattle.model.specs.View.{unpack}
use Rattle.model.proofs.SkipFits.{drawn_inside, spent_fit, taken_fit}
use Rattle.walk.specs.declared.state.State.{State}
use Rattle.walk.specs.declared.state.drawing.Drawn.{Drawn}
use Rattle.walk.specs.View.{view, Quiet}
use Rattle.walk.specs.Drawing.{DrewNone, Popped, DrewRow}
use Rattle.walk.proofs.Draws.{draw_fits, inside, none_ext, popped_ext, popped_inside}
use Rattle.walk.proofs.Keeps.{Fits}
use Rattle.skipping.specs.Seen.{Drew}

none_is : (s t : Walk) → DrewNone s t → (src : Source) → Next src s NoneLeft t
none_is s t (inl (e, f)) src = subst (λ (w : Walk). Next src s NoneLeft w) (sym f) (steps.Next.empty e)
none_is s t (inr (e, q, w, z, f)) src = subst (λ (x : Walk). Next src s NoneLeft x) (sym f) (steps.Next.spent w z)

took : (s : State) (d : Drawn) (t : Walk) → Fits SkipFit s → Popped (view s) d t → Took (view s) d.row (unpack d.had.flags.bits) d.had.original_ttl d.had.ttl t
took s d t F P = record {
  entry = P.entry;
  rest = P.rest;
  waited = P.waited;
  value = P.value;
  counted = P.counted;
  is = P.is;
  carries = record { flags = P.had.flags; original = P.had.original; ttl = P.had.ttl };
  inside = popped_inside (view s) d t P (inside SkipFit drawn_inside s t d F P);
}

pub drew_is : (s : State) (r : Option Drawn) (t : Walk) → Fits SkipFit s → DrewRow (view s) r t → Drew (view s) r t
drew_is s None t F h = none_is (view s) t h
drew_is s (Some d) t F P = took s d t F P

pub drew_ext : (s : State) (r : Option Drawn) (t : Walk) → Fits SkipFit s → DrewRow (view s) r t → Ext (view s) t
drew_ext s None t F h = none_ext (view s) t h
drew_ext s (Some d) t F P = popped_ext (view s) d t P (inside SkipFit drawn_inside s t d F P)

pub drew_fits : (s t : State) (r : Option Drawn) → Fits SkipFit s → Quiet s t → DrewRow (view s) r (view t) → Fits SkipFit t
drew_fits = draw_fits SkipFit spent_fit taken_fit
