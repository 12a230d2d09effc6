use Rattle.std.proofs.Common.{◌≡◌, true, sym, ap, ◌∙◌}
use Rattle.commit.specs.Layout.{stamp, words_of, zoneb}
use Rattle.commit.proofs.Cuts.{stamp_two, stamp_bad}
use Rattle.commit.proofs.date_of.Goals as goal

pub returns-then-not-is_zone : goal.returns-then-not-is_zone
returns-then-not-is_zone c = sym (ap stamp c.in_ok-front.ensures ∙ stamp_bad (words_of c.in_ok-front.front.now) c.in_ok-front.zone.now (sym c.is_zone.ensures ∙ c.if-not-is_zone.true))

pub returns-in-Some : goal.returns-in-Some
returns-in-Some c =
    let zone = c.in_ok-front.zone.now in
    let word = c.in-Some.word.now in
    let zoned : zoneb zone ≡ true = sym c.is_zone.ensures ∙ c.if-not-is_zone.false in
    c.moment.ensures ∙ sym (rw (c.in_ok-front.ensures, c.in-Some.ensures, stamp_two (words_of c.in-Some.field-0-0.now) word zone, zoned))
