use Rattle.std.proofs.Common.{sym, refl, ap, ◌∙◌}
use Rattle.book.specs.declared.types.Metadata.{Metadata}
use Rattle.book.specs.Rows.{Entry, metadata}
use Rattle.book.specs.Model.{model, renumber, rewrite}
use Rattle.book.proofs.Readings.{read_within, rewritten, unwritten}
use Rattle.book.proofs.book.Book.set_skip.Goals as goal

pub write-requires : goal.write-requires
write-requires c = read_within (model c.args.self.now) c.args.row c.in_ok-old.old c.in_ok-old.ensures

pub returns-in_err-old-clause-after : goal.returns-in_err-old-clause-after
returns-in_err-old-clause-after c = unwritten (model c.args.self.now) c.args.row (renumber c.args.original_ttl c.args.ttl) _ c.in_err-old.ensures

pub returns : goal.returns
returns c =
    let u = rewritten (model c.args.self.now) c.args.row {X = Unit {0}} (renumber c.args.original_ttl c.args.ttl) (λ (e : Entry). tt) c.in_ok-old.old c.renumbered.result tt c.in_ok-old.ensures
    (λ e q. (ap (λ (d : Metadata). rewrite d e) c.renumbered.ensures ∙ ap (λ (d : Metadata). rewrite (metadata c.args.original_ttl c.args.ttl d.flags.bits) e) (sym q), refl)) in
    record { after = c.write.ensures ∙ u.0; value = u.1 }
