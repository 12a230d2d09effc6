-- How many rows a walk may take, and the memory that it gives back.
use Rattle.std.specs.Prelude.{◌≡◌, ℕ, ◌≤◌, min, vec_len}
use Rattle.model.specs.Book.{Walk}
use Rattle.walk.specs.declared.state.making.Buffers.{Buffers}

-- the least of 65,535 and the lengths of the three buffers with a place for each row
abbrev pub most_rows : ℕ → ℕ → ℕ → ℕ
most_rows rows queue marking = min (min queue marking) (min 65535 rows)

-- the buffers of a walk: one made of them anew has room for as many rows, and for as many links
pub record Returned (w : Walk) (b : Buffers) : Type 0 where
  pub rows : w.most_rows ≤ most_rows (vec_len b.rows) (vec_len b.queue) (vec_len b.marking)
  pub links : vec_len b.links ≡ w.most_links

-- buffers for so many rows and links
pub record Sized (b : Buffers) (n l : ℕ) : Type 0 where
  pub rows : vec_len b.rows ≡ n
  pub links : vec_len b.links ≡ l
  pub queue : vec_len b.queue ≡ n
  pub marking : vec_len b.marking ≡ n
