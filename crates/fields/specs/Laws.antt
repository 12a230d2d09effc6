-- How a store is written: an id and its text, one pair after another.
use Rattle.std.specs.Prelude.{◌≡◌, ℕ, ◌+◌, ◌*◌, List, [], ◌∷◌, ◌++◌, length, ◌≢◌, Some, None, Ok}
use Rattle.fields.specs.Pairs.{Found}

-- a field as it is written, before the rest: a tag, two length bytes with the high one first, and so many bytes
pub record Whole (tag : ℕ) (body rest bs : List ℕ) : Type 0 where
  pub hi : ℕ
  pub lo : ℕ
  pub size : length body ≡ hi * 256 + lo
  pub is : bs ≡ tag ∷ hi ∷ lo ∷ (body ++ rest)

-- an id of twenty bytes and its text, before the rest
pub record Entry (id text rest bs : List ℕ) : Type 0 where
  pub middle : List ℕ
  pub twenty : length id ≡ 20
  pub first : Whole 1 id middle bs
  pub second : Whole 2 text rest middle

-- pairs of other ids, n bytes in all, before the rest
pub data Others (id : List ℕ) (rest : List ℕ) : List ℕ → ℕ → Type 0 where
  done : (bs : List ℕ) (n : ℕ) → bs ≡ rest → n ≡ 0 → Others id rest bs n
  more : (other text next bs : List ℕ) (m n : ℕ) → Entry other text next bs → (other ≢ id) → Others id rest next m → n ≡ 26 + length text + m → Others id rest bs n

-- the first pair of an id stands at the place p
pub record Placed (store id : List ℕ) (p : ℕ) : Type 0 where
  pub text : List ℕ
  pub left : List ℕ
  pub rest : List ℕ
  pub others : Others id left store p
  pub entry : Entry id text rest left

-- the store is pairs of other ids
pub record Missing (store id : List ℕ) : Type 0 where
  pub size : ℕ
  pub others : Others id [] store size

-- what is found of an id is what is written in the store
pub record Finds (store id : List ℕ) (found : Found) : Type 0 where
  pub takes : (p : ℕ) → Placed store id p → found ≡ Ok (Some p)
  pub placed : (p : ℕ) → found ≡ Ok (Some p) → Placed store id p
  pub lacks : Missing store id → found ≡ Ok None
  pub missing : found ≡ Ok None → Missing store id
