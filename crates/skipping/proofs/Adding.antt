-- What an add leaves, as a step of the rules.
use Rattle.std.proofs.Common.{Result, sym, subst, inl, inr}
use Rattle.source.specs.declared.ObjectId.{ObjectId}
use Rattle.book.specs.declared.types.Denial.{Denial}
use Rattle.model.specs.Book.{Flags, Source, Walk}
use Rattle.model.specs.Steps.{ok}
use Rattle.model.specs.Skipping.{AddUnseen}
use Rattle.model.specs.Parts.{ended}
use Rattle.model.specs.Steady.{Ext}
use Rattle.model.proofs.Good.{ext_refl}
use Rattle.skipping.specs.Seen.{AddsUnseen}

module _ (src : Source) (m : Flags) (i : ObjectId) (s : Walk) where
  pub unseen_is : (r : Result (Unit {0}) Denial) (t : Walk) → AddsUnseen src m i s r t → AddUnseen src m i s (ended r t)
  unseen_is r t (inl (h, e, f)) = subst (λ (x : Result (Unit {0}) Denial). AddUnseen src m i s (ended x t)) (sym e) (subst (λ (u : Walk). AddUnseen src m i s (ok u)) (sym f) (AddUnseen.skips (sym h)))
  unseen_is r t (inr (h, a, x)) = AddUnseen.pushes (sym h) a

  pub unseen_ext : (r : Result (Unit {0}) Denial) (t : Walk) → AddsUnseen src m i s r t → Ext s t
  unseen_ext r t (inl (h, e, f)) = subst (λ (u : Walk). Ext s u) (sym f) (ext_refl s)
  unseen_ext r t (inr (h, a, x)) = x
