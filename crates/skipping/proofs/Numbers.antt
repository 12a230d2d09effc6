-- Skip numbers are written in a row: whatever they are, the state keeps its form.
use Rattle.std.proofs.Common.{◌≡◌, ℕ, ◌<◌, [], length, sym, refl, subst, inr, arith}
use Rattle.model.specs.Book.{Row, Walk, row, put, renumber}
use Rattle.model.specs.Steady.{Ext, Low, loose, SkipFit}
use Rattle.model.proofs.Good.{Same, put_good, put_ext}
use Rattle.model.proofs.Low.{opens_put}
use Rattle.model.proofs.SkipFits.{fit_went}
use Rattle.walk.specs.declared.state.State.{State}
use Rattle.walk.specs.View.{view, Quiet}
use Rattle.walk.proofs.Keeps.{Fits, fits_quiet}

module _ (s : Walk) (k o l : ℕ) (i : k < length s.rows) where
  abbrev r : Row
  r = renumber (row s k) o l

  same : Same (row s k) r
  same = record { id = refl; date = refl; parents = refl }

  ext : Ext s (put s k r s.queue s.count)
  ext = put_ext s k r s.queue s.count i same (λ h. h) (λ h. h) (λ h. h) (omega arith)

  low : Low loose [] s → Low loose [] (put s k r s.queue s.count)
  low H =
      record {
        good = put_good loose s k r s.queue s.count H.good i same (λ x. absurd x) (λ j ne. refl) (H.good.fine k) (omega arith) (λ h. tt) (λ h. tt) (λ h. inr tt) (H.good.pop k);
        low = omega (arith, H.low, opens_put s k r s.queue s.count i);
        high = omega (arith, H.high, ext.seens);
      }

pub written_fits : (s t : State) (k o l : ℕ) → Fits SkipFit s → k < length (view s).rows → Quiet s t → view t ≡ put (view s) k (renumber (row (view s) k) o l) (view s).queue (view s).count → Fits SkipFit t
written_fits s t k o l F i q et =
    fits_quiet SkipFit s t F q (λ n p m f. subst (λ (w : Walk). SkipFit w n p m) (sym et) (fit_went (view s) (put (view s) k (renumber (row (view s) k) o l) (view s).queue (view s).count) n n p m f (low (view s) k o l i f.steady) (ext (view s) k o l i) (omega arith)))
