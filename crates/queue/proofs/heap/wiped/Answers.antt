use Rattle.std.proofs.Common.{◌≡◌, replicate, length, vec_items, vec_len, ap, ◌∙◌, arith, rules}
use Rattle.queue.proofs.Fills.{filled}
use Rattle.queue.proofs.heap.wiped.Goals as goal

pub returns-clause-items : goal.returns-clause-items
returns-clause-items g c =
    let e = c.args.empty in
    let xs = vec_items c.fill_with.new.self in
    let ran = c.fill_with.ensures.ran in
    let long : length xs ≡ vec_len c.args.places = omega (arith, c.fill_with.ensures.len, c.fill_with.new.self.ok.0) in
    filled _ _ ran.0 e xs (λ x f s. (search rules, search rules)) ran.1
    ∙ ap (λ n. replicate n e) long
