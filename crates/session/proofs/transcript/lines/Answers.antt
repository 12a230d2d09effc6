use Rattle.std.proofs.Common.{ℕ, List, ◌++◌, string_bytes, ap, ◌∙◌, arith}
use Rattle.session.proofs.Prints.{lines_more, lines_all}
use Rattle.session.proofs.transcript.lines.Goals as goal

pub loop-i-preserved : goal.loop-i-preserved
loop-i-preserved c =
    let e = c.in_ok-push_str.ensures.bytes ∙ ap {B = List ℕ} (λ x. string_bytes c.loop-i.text ++ x) (c.as_str.ensures.value ∙ c.in_ok-said.ensures) in
    lines_more _ c.loop-i.i c.args.events.now _ _ _ _ (omega arith) e c.loop-i.invariant

pub returns : goal.returns
returns c = lines_all _ _ c.loop-i.i c.args.events.now _ _ (omega arith) c.loop-i.invariant
