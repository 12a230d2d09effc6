-- A row drawn from the queue, in the words of the rules.
use Rattle.std.proofs.Common.{◌≡◌, Bool, not, sym, ap, ◌∙◌, subst, inl, inr}
use Rattle.model.specs.declared.Reply.TheVariants.{NoneLeft}
use Rattle.model.specs.Book.{Source, Walk, Flags}
use Rattle.model.specs.Consecutive as steps
use Rattle.model.specs.Consecutive.{passes_both}
use Rattle.model.specs.Parts.{Took}
use Rattle.model.specs.Steady.{Fit}
use Rattle.model.specs.View.{unpack}
use Rattle.model.proofs.Fits.{drawn_inside}
use Rattle.walk.specs.declared.state.State.{State}
use Rattle.walk.specs.declared.state.drawing.Drawn.{Drawn}
use Rattle.walk.specs.View.{view}
use Rattle.walk.specs.Drawing.{DrewNone, Popped}
use Rattle.walk.proofs.Draws.{inside, popped_inside}
use Rattle.walk.proofs.Keeps.{Fits}

pub none_is : (s t : Walk) → DrewNone s t → (src : Source) → steps.Next src s NoneLeft t
none_is s t (inl (e, f)) src = subst (λ (x : Walk). steps.Next src s NoneLeft x) (sym f) (steps.Next.empty e)
none_is s t (inr (e, q, w, z, f)) src = subst (λ (x : Walk). steps.Next src s NoneLeft x) (sym f) (steps.Next.spent w z)

pub took : (s : State) (d : Drawn) (t : Walk) (answered both : Bool) → Fits Fit s → Popped (view s) d t
    → answered ≡ not (unpack d.had.flags.bits).common → both ≡ passes_both (unpack d.had.flags.bits) → Took (view s) (record { row = d.row; answered = answered; both = both }) t
took s d t answered both F P a b = record {
  entry = P.entry;
  rest = P.rest;
  waited = P.waited;
  value = P.value;
  counted = P.counted;
  is = P.is;
  answers = a ∙ ap (λ (g : Flags). not g.common) P.had.flags;
  passes = b ∙ ap (λ (g : Flags). passes_both g) P.had.flags;
  inside = popped_inside (view s) d t P (inside Fit drawn_inside s t d F P);
}
