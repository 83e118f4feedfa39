-- For each node the residues modulo 64 of the items of its trees.
-- For contracts within this crate alone: no public contract's meaning rests on this file.
use Rattle.std.specs.Prelude.{◌≡◌, ℕ, zero, suc, ◌%◌, List, get_or, All}
use Rattle.std.specs.Int.{bit_at}
use Rattle.persistent_lists.specs.Trees.{items, pair_at}

-- the item's residue is among these
abbrev pub MayHold : (residues item : ℕ) → Type 0
MayHold rs x = bit_at rs (x % 64) ≡ 1

-- these are all among those
abbrev pub Covers : (these those : ℕ) → Type 0
Covers rs ss = (k : ℕ) → bit_at rs k ≡ 1 → bit_at ss k ≡ 1

-- the residues of the tree's items are among these
abbrev pub AreAmong : List (ℕ × ℕ) → (height node : ℕ) → (residues : ℕ) → Type 0
AreAmong ps h n rs = All (MayHold rs) (items ps h n)

-- those of the tree's items are among those of its node, and so it is with each tree in it; an item has none
unfoldable pub HasResidues : List (ℕ × ℕ) → (residues : List ℕ) → (height node : ℕ) → Type 0
HasResidues ps rs zero n = Unit {0}
HasResidues ps rs (suc h) n = AreAmong ps (suc h) n (get_or rs n 0) × HasResidues ps rs h (pair_at ps n).0 × HasResidues ps rs h (pair_at ps n).1

-- none is lost
abbrev pub HaveMore : (old new : List ℕ) → Type 0
HaveMore old new = (n : ℕ) → Covers (get_or old n 0) (get_or new n 0)
