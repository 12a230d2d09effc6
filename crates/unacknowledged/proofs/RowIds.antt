-- What a read of a row's id gives.
use Rattle.std.proofs.Common.{◌≡◌, ℕ, zero, suc, List, [], ◌∷◌, map, get_or, refl}
use Rattle.std.specs.List.{slice_get}
use Rattle.std.specs.Result.{result_unwrap_or}
use Rattle.book.specs.Rows.{Entry, no_id}
use Rattle.book.specs.Model.{reading}
use Rattle.model.specs.Book.{no_row}
use Rattle.model.specs.View.{view_row}

pub id_or : (es : List Entry) (k : ℕ) → result_unwrap_or (reading (λ (e : Entry). e.id) (slice_get es k)) no_id ≡ (get_or (map view_row es) k no_row).id
id_or [] k = refl
id_or (x ∷ es) zero = refl
id_or (x ∷ es) (suc k) = id_or es k
