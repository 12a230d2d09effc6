use Rattle.std.proofs.Common.{◌+◌, vec_items, sym, refl, ◌∙◌, subst, arith}
use Rattle.std.proofs.lemmas.List.Edits.{paste_none}
use Rattle.book.specs.declared.book.Book.{Book}
use Rattle.source.specs.Meaning.{parents_of}
use Rattle.book.specs.Model.{Copied}
use Rattle.book.proofs.Entries.{paste_step, no_gap}
use Rattle.book.proofs.book.Book.copy_parents.Goals as goal
use Rattle.book.proofs.book.Book.copy_parents.Goals.{in-Some, in_default}

pub loop-k-init : goal.loop-k-init
loop-k-init g c = (refl, record { links = paste_none (vec_items c.args.self.now.links) c.args.self.now.linked (parents_of (g.S.Source.meaning c.args.source.now c.args.id)); rows = refl; limit = refl; used = refl; linked = refl; stopped = refl })

pub loop-k-preserved : goal.loop-k-preserved
loop-k-preserved g c =
    let ps = parents_of (g.S.Source.meaning c.args.source.now c.args.id) in
    let b = c.args.self.now in
    let old = c.loop-k.invariant.1 in
    let P : Book → Type 0 = λ x. Copied b x ps (c.loop-k.k + 1) in (
      refl,
      elim c.match-parent.branch [
        | in-Some w ↦ subst P (sym w.self-is) (record { links = paste_step (vec_items b.links) (vec_items c.loop-k.self.links) ps b.linked c.loop-k.k w.in-Some.parent old.links (sym c.parent.ensures ∙ w.in-Some.is) (omega arith) (omega arith); rows = old.rows; limit = old.limit; used = old.used; linked = old.linked; stopped = old.stopped })
        | in_default w ↦ absurd (no_gap ps c.loop-k.k c.args.id (sym c.parent.ensures ∙ w.in_default.is) (omega arith))
      ],
    )
