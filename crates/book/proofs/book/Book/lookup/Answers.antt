use Rattle.std.proofs.Common.{Bool, ◌||◌, sym, ap, ◌∙◌}
use Rattle.book.specs.Model.{Looked, model}
use Rattle.book.proofs.Lookups.{stopped_on, found_here}
use Rattle.book.proofs.book.Book.lookup.Goals as goal

pub returns : goal.returns
returns g c =
    let e = found_here (model c.args.self.now) (g.S.Source.meaning c.args.source.now) c.args.id c.in_default.ensures in
    let m = model c.enter-entered.new.self in
    record {
      after = ap (λ (b : Bool). record { entries = m.entries; linked = m.linked; most_rows = m.most_rows; most_links = m.most_links; slots = m.slots; stopped = m.stopped || b }) c.is_err.ensures.value
          ∙ stopped_on m c.enter-entered.result
          ∙ c.enter-entered.ensures.after
          ∙ sym (ap (λ (l : Looked). l.book) e);
      value = c.enter-entered.ensures.value ∙ sym (ap (λ (l : Looked). l.answer) e);
    }
