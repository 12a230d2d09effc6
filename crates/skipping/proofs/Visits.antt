-- A step that was drawn from the marking queue: what the code needs of it, and what it leaves.
use Rattle.std.proofs.Common.{◌≡◌, ℕ, ◌+◌, ◌-◌, ◌<◌, ◌≤◌, List, ◌∷◌, length, ℤ, sym, refl, ap, ◌∙◌, subst, inl, arith}
use Rattle.source.specs.declared.ObjectId.{ObjectId}
use Rattle.queue.specs.declared.entry.Entry.{Entry}
use Rattle.model.specs.declared.Step.{Step}
use Rattle.model.specs.Book.{Flags, Walk, Marks, row, flags_at, recount}
use Rattle.model.specs.Skipping.{falls, relieved}
use Rattle.model.specs.SkipParts.{SpreadAll, Visited}
use Rattle.model.specs.Steady.{SkipFit, SkipHeld, Ext, common_rows}
use Rattle.model.proofs.Low.{relieved_ext}
use Rattle.model.proofs.SkipFits.{held_room, held_drawn, relieve_fit}
use Rattle.model.proofs.SkipMoves.{relieved_is, visit_row}
use Rattle.walk.specs.declared.state.State.{State}
use Rattle.walk.specs.View.{view, marks, mark_numbered, Quiet}
use Rattle.walk.proofs.Keeps.{Fits, fits_quiet}

module _ (s : State) (e : Step) (d : ℤ) (H : SkipHeld (view s) (record { date = d; value = e } ∷ marks s) (mark_numbered s)) (f : Flags) (n : ℕ) (ef : f ≡ flags_at (view s) e.row) (en : n ≡ falls f) where
  abbrev x : Entry Step
  x = record { date = d; value = e }

  pub room : n ≤ (view s).count
  room =
      let a = held_room (view s) x (marks s) (mark_numbered s) H in
      let b = en ∙ ap falls ef in
      omega (arith, a, b)

  module _ (t : State) (q : Quiet s t) (et : view t ≡ recount (view s) ((view s).count - n)) where
    is : view t ≡ relieved (view s) e.row
    is = relieved_is (view s) (view t) e.row n f ef en et

    pub fits : Fits SkipFit s → Fits SkipFit t
    fits F = fits_quiet SkipFit s t F q (λ m p r y. subst (λ (w : Walk). SkipFit w m p r) (sym is) (relieve_fit (view s) x (marks s) m (mark_numbered s) p r y H))

    pub inside : e.row < length (view t).rows
    inside = subst (λ (w : Walk). e.row < length w.rows) (sym is) (H.inside x (inl refl))

    pub held : SkipHeld (view t) (marks t) (mark_numbered t)
    held = subst (λ (m : Marks). SkipHeld (view t) m (mark_numbered t)) (sym q.aside.marks)
        (subst (λ (y : ℕ). SkipHeld (view t) (marks s) y) (sym q.aside.mark_numbered)
        (subst (λ (w : Walk). SkipHeld w (marks s) (mark_numbered s)) (sym is) (held_drawn (view s) x (marks s) (mark_numbered s) H)))

    pub ext : Ext (view s) (view t)
    ext = subst (λ (w : Walk). Ext (view s) w) (sym is) (relieved_ext (view s) e.row)

    module _ (v : State) where
      pub visited : SpreadAll (row (view t) e.row).parents (marks t) (view t) (marks v) (view v) → Visited e (marks s) (view s) (marks v) (view v)
      visited h = visit_row e (marks s) (marks v) (view s) (view t) (view v) is
          (subst (λ (ps : List ObjectId). SpreadAll ps (marks s) (view t) (marks v) (view v)) (ap (λ (w : Walk). (row w e.row).parents) is)
          (subst (λ (m : Marks). SpreadAll (row (view t) e.row).parents m (view t) (marks v) (view v)) q.aside.marks h))

      pub pays : length (marks v) + common_rows (view t) ≤ length (marks t) + common_rows (view v) → length (marks v) + common_rows (view s) ≤ length (marks s) + common_rows (view v)
      pays h = omega (arith, h, ext.commons, ap {B = ℕ} (λ (m : Marks). length m) q.aside.marks)
