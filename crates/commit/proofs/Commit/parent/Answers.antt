use Rattle.std.proofs.Common.{ℕ, List, [], get_or, Some, sym, ap, ◌∙◌, arith}
use Rattle.source.specs.declared.ObjectId.{ObjectId}
use Rattle.commit.proofs.Walks.{name_on, name_past}
use Rattle.commit.proofs.Commit.parent.Goals as goal

pub returns : goal.returns
returns c =
    let h = c.in_ok-line.ensures.lookup in
    let front = c.as_chunks.ensures.front in
    ap (λ (x : ObjectId). Some x) c.name_of.ensures
    ∙ name_on c.args.self.now.parents.now c.in_ok-line.line.now c.args.n (omega (arith, h.3.0, c.as_chunks.ensures.front_len)) (h.3.1 [] ∙ ap (λ (ls : List (List ℕ)). get_or ls c.args.n []) front)

pub returns-in_err-line : goal.returns-in_err-line
returns-in_err-line c =
    let h = c.in_err-line.ensures.lookup in
    c.from_residual.ensures ∙ sym (name_past c.args.self.now.parents.now _ c.args.n (omega (arith, h.3, c.as_chunks.ensures.front_len)))
