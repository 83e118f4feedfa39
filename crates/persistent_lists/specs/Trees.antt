-- Lists as binary trees over their indices, whose nodes stand in a table of pairs.
-- For contracts within this crate alone: no public contract's meaning rests on this file.
use Rattle.std.specs.Prelude.{◌≡◌, ℕ, zero, suc, ◌-◌, ◌<◌, ◌^◌, List, [], ◌∷◌, ◌++◌, length, map, take, get_or, replicate, Option, Some, None, nat_lt}
use Rattle.std.specs.Prelude.{if◌then◌else◌}
use Rattle.lists.specs.Lists.{onto}

-- the two nodes below a node
abbrev pub pair_at : List (ℕ × ℕ) → (node : ℕ) → ℕ × ℕ
pair_at ps n = get_or ps n (0, 0)

-- the items of a node; at height 0 it is the item itself
unfoldable pub items : List (ℕ × ℕ) → (height node : ℕ) → List ℕ
items ps zero n = n ∷ []
items ps (suc h) n = items ps h (pair_at ps n).0 ++ items ps h (pair_at ps n).1

-- each node above height 0 stands in the table
unfoldable pub IsTree : List (ℕ × ℕ) → (height node : ℕ) → Type 0
IsTree ps zero n = Unit {0}
IsTree ps (suc h) n = (n < length ps) × IsTree ps h (pair_at ps n).0 × IsTree ps h (pair_at ps n).1

-- the node is of these two halves
abbrev pub IsNode : List (ℕ × ℕ) → (halves : ℕ × ℕ) → (node : ℕ) → Type 0
IsNode ps p n = (n < length ps) × (pair_at ps n ≡ p)

-- the nodes of the second table are those of the first, and more
abbrev pub Extends : (old new : List (ℕ × ℕ)) → Type 0
Extends old new = (more : List (ℕ × ℕ)) × (new ≡ old ++ more)

-- the lists of these nodes
abbrev pub lists_of : (width height : ℕ) → List (ℕ × ℕ) → (roots : List ℕ) → List (List ℕ)
lists_of width h ps roots = map (λ root. take width (items ps h root)) roots

-- a tree of these items, behind which the rest stands, and one of the rest alone
pub record IsFilled (ps : List (ℕ × ℕ)) (height : ℕ) (given : List ℕ) (rest node rest_node : ℕ) : Type 0 where
  pub tree : IsTree ps height node
  pub rest_tree : IsTree ps height rest_node
  pub filled : items ps height node ≡ given ++ replicate (2 ^ height - length given) rest
  pub rests : items ps height rest_node ≡ replicate (2 ^ height) rest

-- a tree of these items
pub record IsTreeOf (ps : List (ℕ × ℕ)) (height node : ℕ) (given : List ℕ) : Type 0 where
  pub tree : IsTree ps height node
  pub holds : items ps height node ≡ given

-- the index, if it is below the width
abbrev pub below : (width : ℕ) → Option ℕ → Option ℕ
below w i = onto i (λ k. if nat_lt k w then Some k else None)
