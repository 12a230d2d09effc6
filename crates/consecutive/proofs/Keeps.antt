-- What waits to be marked from, held by the rows with COMMON.
use Rattle.std.proofs.Common.{ℕ, ◌+◌, ◌≤◌, length, sym, ap, subst, arith}
use Rattle.model.specs.Book.{Marks}
use Rattle.model.specs.Steady.{Held, Ext, common_rows}
use Rattle.model.proofs.Fits.{held_ext}
use Rattle.walk.specs.declared.state.State.{State}
use Rattle.walk.specs.View.{view, marks, mark_numbered, Aside, Quiet}

pub held_aside : (s t : State) (more : ℕ) → Aside s t → Ext (view s) (view t) → Held (view s) (marks s) (mark_numbered s) more
    → Held (view t) (marks t) (mark_numbered t) more × (length (marks t) + common_rows (view s) ≤ length (marks s) + common_rows (view t))
held_aside s t more a x H = (
  subst (λ (m : Marks). Held (view t) m (mark_numbered t) more) (sym a.marks) (subst (λ (n : ℕ). Held (view t) (marks s) n more) (sym a.mark_numbered) (held_ext (view s) (view t) (marks s) (mark_numbered s) more H x)),
  omega (arith, x.commons, ap {B = ℕ} (λ (m : Marks). length m) a.marks),
)

pub held_quiet : (s t : State) (more : ℕ) → Quiet s t → Ext (view s) (view t) → Held (view s) (marks s) (mark_numbered s) more
    → Held (view t) (marks t) (mark_numbered t) more × (length (marks t) + common_rows (view s) ≤ length (marks s) + common_rows (view t))
held_quiet s t more q x H = held_aside s t more q.aside x H
