use Rattle.std.proofs.Common.{Bool, ◌&&◌, sym, refl, ap, ◌∙◌, rules, eq-eqb}
use borrow.Author.Tests.{tests}
use Rattle.std.proofs.lemmas.Iterator.{YieldsList-from_slice}
use Rattle.std.proofs.lemmas.Iterator.Search.{all_from_yields_List}
use Rattle.commit.specs.Layout.{hexb, all_hex}
use Rattle.commit.proofs.Fronts.{all_same}
use Rattle.commit.proofs.is_name.Goals as goal

pub returns-then-digits-eq40 : goal.returns-then-digits-eq40
returns-then-digits-eq40 c =
    all_from_yields_List hexb _ _ c.all.result c.all.ensures.ran (YieldsList-from_slice c.args.digits.now cc) (λ x b q k. search (rules, tests))
    ∙ all_same hexb all_hex refl (λ _ _. refl) c.args.digits.now
    ∙ sym (ap (λ (b : Bool). b && all_hex c.args.digits.now) (eq-eqb _ _ c.if-digits-eq40.true))
