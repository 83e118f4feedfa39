-- Pairs of trees of which a test passes wherever they differ.
-- For contracts within this crate alone: no public contract's meaning rests on this file.
use Rattle.std.specs.Prelude.{◌≡◌, ◌⊎◌, ℕ, Bool, List, [], ◌∷◌, ◌++◌, map, All}
use Rattle.persistent_lists.specs.declared.known.TreePair.{TreePair}
use Rattle.persistent_lists.specs.declared.trees.Difference.{Difference}
use Rattle.persistent_lists.specs.Answers.{PassesOn}
use Rattle.persistent_lists.specs.Trees.{items, IsTree}

-- the items of both
abbrev pub items_of : List (ℕ × ℕ) → TreePair → List ℕ × List ℕ
items_of ps k = (items ps k.height k.first, items ps k.height k.second)

abbrev pub all_items : List (ℕ × ℕ) → List TreePair → List (List ℕ × List ℕ)
all_items ps ks = map (items_of ps) ks

-- each node of both stands in the table
abbrev pub AreTrees : List (ℕ × ℕ) → TreePair → Type 0
AreTrees ps k = IsTree ps k.height k.first × IsTree ps k.height k.second

-- of each pair the test passes wherever they differ
pub record AllPass (answers : Difference → Bool → Type 0) (ps : List (ℕ × ℕ)) (ks : List TreePair) : Type 0 where
  pub trees : All (AreTrees ps) ks
  pub passes : All (PassesOn answers) (all_items ps ks)

-- the pair is remembered beside the others, or they alone, or none
abbrev pub IsRemembered : (old : List TreePair) → TreePair → (new : List TreePair) → Type 0
IsRemembered old k new = (new ≡ old) ⊎ ((new ≡ old ++ k ∷ []) ⊎ (new ≡ []))

-- the same, where the pair is only if it may be
abbrev pub IsGrown : (old : List TreePair) → TreePair → (May : Type 0) → (new : List TreePair) → Type 0
IsGrown old k May new = (new ≡ old) ⊎ ((May × (new ≡ old ++ k ∷ [])) ⊎ (new ≡ []))
