use Rattle.std.proofs.Common.{sym}
use Rattle.commit.proofs.Walks.{length_names}
use Rattle.commit.proofs.Commit.count.Goals as goal

pub returns : goal.returns
returns c = sym (length_names c.args.self.now.parents.now)
