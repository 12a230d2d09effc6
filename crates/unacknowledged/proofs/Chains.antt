-- The list as a chain over the events.
use Rattle.std.proofs.Common.{◌≡◌, Bool, true, false, cond, not, List, [], ◌∷◌, get_or, refl, ap, ◌∙◌}
use Rattle.std.specs.List.{filter, filter_map, cons_option}
use Rattle.model.specs.Book.{Row, no_row}
use Rattle.model.specs.declared.Event.{Event}
use Rattle.model.specs.declared.Reply.{Reply}
use Rattle.model.specs.declared.Reply.TheVariants.{Done, Have, NoneLeft, Told, Denied}
use Rattle.unacknowledged.specs.declared.Commit.{Commit}
use Rattle.unacknowledged.specs.Listing.{named, commit_of, commit_in, offered, listed}

module _ (all : List Event) (rows : List Row) where
  abbrev pub kept : Commit → Bool
  kept c = not (named all c.id)

  turn : (a : Reply) (cs : List Commit) → filter kept (cons_option (commit_in rows a) cs) ≡ offered all rows a (filter kept cs)
  turn Done cs = refl
  turn (Have k) cs = go (named all (get_or rows k no_row).id)
    where
      go : (b : Bool) → cond (not b) (commit_of (get_or rows k no_row) ∷ filter kept cs) (filter kept cs) ≡ cond b (filter kept cs) (commit_of (get_or rows k no_row) ∷ filter kept cs)
      go true = refl
      go false = refl
  turn NoneLeft cs = refl
  turn (Told b) cs = refl
  turn (Denied d) cs = refl

  pub chained : (es : List Event) → filter kept (filter_map (λ (e : Event). commit_in rows e.gave) es) ≡ listed all rows es
  chained [] = refl
  chained (e ∷ es) = turn e.gave (filter_map (λ (x : Event). commit_in rows x.gave) es) ∙ ap (λ (cs : List Commit). offered all rows e.gave cs) (chained es)
