-- Families of sets of numbers.
use Rattle.std.specs.Prelude.{ℕ, ◌<◌, List, [], slice_index_or, All}
use Rattle.std.specs.List.Sorted.{IsStrictlyIncreasing}

-- sets, each as a list that rises, and a number above all of theirs
pub record Sets : Type 0 where
  pub sets : List (List ℕ)
  pub size : ℕ

pub record AreSets (f : Sets) : Type 0 where
  pub rising : All IsStrictlyIncreasing f.sets
  pub below : All (λ s. All (λ x. x < f.size) s) f.sets

-- set i
abbrev pub set_at : List (List ℕ) → ℕ → List ℕ
set_at ss i = slice_index_or ss i []
