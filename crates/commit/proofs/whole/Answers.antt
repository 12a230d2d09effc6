use Rattle.commit.proofs.whole.Goals as goal
use Rattle.std.proofs.Common.{◌∙◌, rules}
use Rattle.commit.proofs.Walks.{tree_good, tree_bad}

pub returns-then-is_named : goal.returns-then-is_named
returns-then-is_named c =
    let h = c.in_ok-line.ensures in
    c.after_tree.ensures ∙ tree_good c.args.lines.text.now _ c.in_ok-line.tail.text.now _ _ h.0 h.2 c.if-is_named.ensures

pub returns-else-is_named : goal.returns-else-is_named
returns-else-is_named c =
    let h = c.in_ok-line.ensures in
    let k = tree_bad c.args.lines.text.now _ c.in_ok-line.tail.text.now c.args.lines.at h.0 c.if-is_named.ensures in
    search rules
