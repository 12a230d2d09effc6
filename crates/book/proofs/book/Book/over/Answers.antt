use Rattle.std.proofs.Common.{◌≡◌, ℕ, zero, suc, List, map, get_or, replicate, refl, ap, ◌∙◌, arith}
use Rattle.book.specs.declared.types.Row.{Row}
use Rattle.book.specs.Index.{head_of}
use Rattle.book.specs.Rows.{empty_row}
use Rattle.book.proofs.book.Book.over.Goals as goal

no_head : (n h : ℕ) → get_or (map head_of (replicate n empty_row)) h 0 ≡ 0
no_head zero h = refl
no_head (suc n) zero = refl
no_head (suc n) (suc h) = no_head n h

pub invariant_of-result : goal.invariant_of-result
invariant_of-result c = record {
  within = omega arith;
  lent = omega arith;
  narrow = omega arith;
  room = omega arith;
  inside = λ k d l. absurd (omega arith);
  chained = λ k l. absurd (omega arith);
  headed = λ h l. ap (λ (rs : List Row). get_or (map head_of rs) h 0) c.requires.zeroes ∙ no_head _ h;
  distinct = λ j k l. absurd (omega arith);
}
