-- The tags of the blocks of the method cache's ring.
use Rattle.std.specs.Prelude.{ℕ, ◌+◌, ◌-◌, Bool, ◌==◌, ◌&&◌, if◌then◌else◌, List, [], ◌∷◌, Option, Some, None}

-- the tag of a block: whether a method that the cache holds begins in it, which one, and its words
pub record BlockTag : Type 0 where
  pub begins : ℕ
  pub method : ℕ
  pub words : ℕ

abbrev pub bit_of : Bool → ℕ
bit_of b = if b then 1 else 0

-- a place of a ring of so many behind one
abbrev pub behind : (places place : ℕ) → ℕ
behind places place = if place == places - 1 then 0 else place + 1

-- what a look-up finds among the tags of blocks from this one on: the block, and the words
abbrev pub find_tag : (block place : ℕ) → List BlockTag → Option (ℕ × ℕ)
find_tag block place [] = None
find_tag block place (t ∷ ts) = if t.begins == 1 && t.method == place then Some (block, t.words) else find_tag (block + 1) place ts
