use Rattle.std.proofs.Common.{refl, ◌∙◌, rules}
use borrow.Author.Tests.{tests}
use Rattle.std.proofs.lemmas.Iterator.{YieldsList-from_slice}
use Rattle.std.proofs.lemmas.Iterator.Search.{all_from_yields_List}
use Rattle.commit.specs.Layout.{digitb, all_digits}
use Rattle.commit.proofs.Fronts.{all_same}
use Rattle.commit.proofs.all_digits.Goals as goal

pub returns : goal.returns
returns c =
    all_from_yields_List digitb _ _ c.all.result c.all.ensures.ran (YieldsList-from_slice c.args.digits.now cc) (λ x b q k. search (rules, tests))
    ∙ all_same digitb all_digits refl (λ _ _. refl) c.args.digits.now
