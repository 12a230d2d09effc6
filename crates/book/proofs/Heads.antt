-- A row of a book and its entry.
use Rattle.std.proofs.Common.{◌≡◌, ℕ, ◌<◌, length, get_or, take, drop, vec_items, ap, ◌∙◌, arith}
use Rattle.std.proofs.lemmas.List.{get_or-map, get_or-take, length-map, length-take-le, length-drop}
use Rattle.book.specs.declared.types.Row.{Row}
use Rattle.book.specs.declared.book.Book.{Book}
use Rattle.book.specs.Rows.{entry}
use Rattle.book.specs.Model.{model, no_entry}

pub entries_long : (b : Book) → length (model b).entries ≡ b.used
entries_long b = length-map (take b.used (vec_items b.rows)) (entry (vec_items b.links)) ∙ length-take-le b.used (vec_items b.rows) (omega (arith, b.within, b.lent, b.rows.ok.0))

pub entry_at : (b : Book) (k : ℕ) (d : Row) → k < b.used → get_or (model b).entries k no_entry ≡ entry (vec_items b.links) (get_or (vec_items b.rows) k d)
entry_at b k d l =
    let long : length (take b.used (vec_items b.rows)) ≡ b.used = length-take-le b.used (vec_items b.rows) (omega (arith, b.within, b.lent, b.rows.ok.0)) in
    get_or-map (entry (vec_items b.links)) (take b.used (vec_items b.rows)) k d no_entry (omega (arith, long)) ∙ ap (entry (vec_items b.links)) (get_or-take b.used (vec_items b.rows) k d l)

pub parents_long : (b : Book) (k : ℕ) (d : Row) → k < b.used → length (entry (vec_items b.links) (get_or (vec_items b.rows) k d)).parents ≡ (get_or (vec_items b.rows) k d).count
parents_long b k d l =
    let r = get_or (vec_items b.rows) k d in
    length-take-le r.count (drop r.first (vec_items b.links)) (omega (arith, length-drop r.first (vec_items b.links), b.inside k d l, b.room, b.links.ok.0))
