-- The last write of a local variable before a loop, by numbers of nodes and by acts.
use Rattle.std.specs.Prelude.{◌≡◌, ◌≢◌, ◌⊎◌, ℕ, ◌*◌, ◌<◌, ℤ, List, [], ◌∷◌, ◌++◌, length, slice_index, Some}
use Rattle.loop_nest.specs.Digraph.{Digraph, Edge}
use Rattle.loop_nest.specs.Walks.{IsEntering}
use Rattle.loop_acts.specs.Writing.{WritesAt}
use Rattle.loop_acts.specs.declared.effects.Act.{Act}
use Rattle.loop_acts.specs.declared.effects.Act.TheVariants as does
use Rattle.loop_acts.specs.Acts.{act_at}

-- the node is the one from which another one is entered, which isn't node 0
pub record IsOnlySource (g : Digraph) (u w : ℕ) : Type 0 where
  pub later : u ≢ 0
  pub edge : Edge g w u
  pub alone : (z : ℕ) → Edge g z u → z ≡ w

-- backwards from a node through only sources, to the first place that writes the local variable
pub data LastWriteFrom (acts : List Act) (g : Digraph) (local : ℕ) : (node place : ℕ) → Type 0 where
  here : {u p : ℕ} → u ≡ 2 * p → WritesAt acts local p → LastWriteFrom acts g local u p
  before : {u w p : ℕ} → ((q : ℕ) → u ≡ 2 * q → ¬ WritesAt acts local q) → IsOnlySource g u w → LastWriteFrom acts g local w p → LastWriteFrom acts g local u p

-- the places, the last first, of the instructions that write local variables on the way backwards from a node: the first of them that writes a variable is
-- the variable's last write, and one that none of them writes has no last write
pub record AreWritesBefore (acts : List Act) (g : Digraph) (from : ℕ) (places : List ℕ) : Type 0 where
  pub first : (local i : ℕ) → i < length places → WritesAt acts local (slice_index places i) → ((j : ℕ) → j < i → ¬ WritesAt acts local (slice_index places j))
      → LastWriteFrom acts g local from (slice_index places i)
  pub none : (local : ℕ) → ((i : ℕ) → i < length places → ¬ WritesAt acts local (slice_index places i)) → (p : ℕ) → ¬ LastWriteFrom acts g local from p

-- the node's instruction was added to these places, if it writes a local variable
abbrev pub IsAddedWrite : List Act → (node : ℕ) → (old new : List ℕ) → Type 0
IsAddedWrite acts u old new = (((local p : ℕ) → u ≡ 2 * p → ¬ WritesAt acts local p) × (new ≡ old)) ⊎ ((p : ℕ) × (u ≡ 2 * p) × (new ≡ old ++ p ∷ []))

-- the first of these places that writes the local variable
pub record IsFirstWrite (acts : List Act) (local : ℕ) (places : List ℕ) (p : ℕ) : Type 0 where
  pub index : ℕ
  pub below : index < length places
  pub is : slice_index places index ≡ p
  pub writes : WritesAt acts local p
  pub before : (j : ℕ) → j < index → ¬ WritesAt acts local (slice_index places j)

-- the loop is entered from this node alone
pub record IsOnlyEntry (g : Digraph) (h u : ℕ) : Type 0 where
  pub enters : IsEntering g h u h
  pub alone : (other : ℕ) → IsEntering g h other h → other ≡ u

-- the last write before the loop stores the constant
pub record IsSetTo (acts : List Act) (g : Digraph) (h local : ℕ) (c : ℤ) : Type 0 where
  pub source : ℕ
  pub entry : IsOnlyEntry g h source
  pub place : ℕ
  pub last : LastWriteFrom acts g local source place
  pub stored : ℕ
  pub store : act_at acts place ≡ does.Set stored (Some c)
