-- Which texts the layout composes, and of which date and parents.
use Rattle.std.specs.Prelude.{◌≡◌, ℕ, ◌≤◌, true, List, [], ◌∷◌, ◌++◌, map, length, ℤ, Some, codes, ◌≢◌}
use Rattle.source.specs.declared.ObjectId.{ObjectId}
use Rattle.commit.specs.Layout.{nameb, name_of, moment_of, zoneb, Reading, fits, misfits}

-- the byte c does not stand in a list
abbrev pub Lacks : ℕ → List ℕ → Type 0
Lacks c [] = Unit {0}
Lacks c (x ∷ xs) = (x ≢ c) × Lacks c xs

-- empty, or a space at the end
abbrev pub Spaced : List ℕ → Type 0
Spaced [] = Unit {0}
Spaced (x ∷ []) = x ≡ 32
Spaced (x ∷ y ∷ ys) = Spaced (y ∷ ys)

-- each is forty lower-case hex digits
abbrev pub AllNames : List (List ℕ) → Type 0
AllNames [] = Unit {0}
AllNames (n ∷ ns) = (nameb n ≡ true) × AllNames ns

-- the lines of some parents, before the rest
abbrev pub parent_lines : List (List ℕ) → List ℕ → List ℕ
parent_lines [] rest = rest
parent_lines (n ∷ ns) rest = codes "parent " ++ (n ++ 10 ∷ parent_lines ns rest)

-- the author's and the committer's line, before the rest
abbrev pub last_lines : List ℕ → List ℕ → List ℕ → List ℕ → List ℕ → List ℕ
last_lines author who day zone rest = codes "author " ++ (author ++ 10 ∷ (codes "committer " ++ (who ++ (day ++ 32 ∷ (zone ++ 10 ∷ rest)))))

-- the text t has the date d and the parents ps, by the layout
pub record Written (t : List ℕ) (d : ℤ) (ps : List ObjectId) : Type 0 where
  pub tree : List ℕ
  pub names : List (List ℕ)
  pub author : List ℕ
  pub who : List ℕ
  pub day : List ℕ
  pub zone : List ℕ
  pub rest : List ℕ
  pub tree_is : nameb tree ≡ true
  pub names_are : AllNames names
  pub parents_are : map name_of names ≡ ps
  pub author_is : Lacks 10 author
  pub who_is : Lacks 10 who × Spaced who
  pub day_is : moment_of day ≡ Some d
  pub zone_is : zoneb zone ≡ true
  pub whole : t ≡ codes "tree " ++ (tree ++ 10 ∷ parent_lines names (last_lines author who day zone rest))

-- what fits was so composed; a misfit's place lies in the text or at its end
abbrev pub Composed : List ℕ → Reading → Type 0
Composed t (fits d ps) = Written t d ps
Composed t (misfits p) = p ≤ length t
