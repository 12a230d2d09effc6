use Rattle.std.proofs.Common.{rules}
use Rattle.commit.proofs.Cuts.{cut_word, lacks_at, one_word}
use Rattle.commit.proofs.last_word.Goals as goal

pub returns : goal.returns
returns c =
    let e = c.split_at.ensures in
    cut_word c.args.line.now _ _ c.in_ok-space.space (search rules) (search rules) (search rules) e.front e.back

pub returns-in_err-space : goal.returns-in_err-space
returns-in_err-space c = let z = one_word c.args.line.now (lacks_at 32 c.args.line.now (search rules)) in search rules
