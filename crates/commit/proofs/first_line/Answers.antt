use Rattle.std.proofs.Common.{rules}
use Rattle.commit.proofs.Cuts.{cut_line, lacks_at, line_none}
use Rattle.commit.proofs.first_line.Goals as goal

pub returns : goal.returns
returns c =
    let e = c.split_at.ensures in
    cut_line c.args.text.now _ _ c.in_ok-end.end (search rules) (search rules) (search rules) e.front e.back

pub returns-in_err-end : goal.returns-in_err-end
returns-in_err-end c = let z = line_none c.args.text.now (lacks_at 10 c.args.text.now (search rules)) in search rules
