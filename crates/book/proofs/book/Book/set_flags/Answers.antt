use Rattle.std.proofs.Common.{sym, ap, ◌∙◌, bit_or}
use Rattle.book.specs.declared.types.Metadata.{Metadata}
use Rattle.book.specs.Rows.{metadata}
use Rattle.book.specs.Model.{model, flags_of, raise, rewrite}
use Rattle.book.proofs.Readings.{read_within, rewritten, unwritten}
use Rattle.book.proofs.book.Book.set_flags.Goals as goal

pub write-requires : goal.write-requires
write-requires c = read_within (model c.args.self.now) c.args.row c.in_ok-old.old c.in_ok-old.ensures

pub returns-in_err-old-clause-after : goal.returns-in_err-old-clause-after
returns-in_err-old-clause-after c = unwritten (model c.args.self.now) c.args.row (raise c.args.mask.bits) _ c.in_err-old.ensures

pub returns : goal.returns
returns c =
    let old = c.in_ok-old.old in
    let u = rewritten (model c.args.self.now) c.args.row (raise c.args.mask.bits) flags_of old c.flagged.result old.flags c.in_ok-old.ensures
    (λ e q. (ap (λ (d : Metadata). rewrite d e) c.flagged.ensures ∙ ap (λ (d : Metadata). rewrite (metadata d.original_ttl d.ttl (bit_or d.flags.bits c.args.mask.bits)) e) (sym q), ap (λ (d : Metadata). d.flags) (sym q))) in
    record { after = c.write.ensures ∙ u.0; value = u.1 }
