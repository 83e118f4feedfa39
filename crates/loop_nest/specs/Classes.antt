-- The nodes of a graph in the course of its reduction, by the nodes into which they were merged. It is the reduction without its edges from a node to itself.
use Rattle.std.specs.Prelude.{◌≡◌, ◌≢◌, ℕ, ◌⊎◌}
use Rattle.loop_nest.specs.Digraph.{Digraph, Edge}
use Rattle.loop_nest.specs.Reduction.{renamed}

-- where c gives the node into which each node is merged: x is not node 0, and the nodes merged into x are entered from x and p alone
pub record CanMergeClass (g : Digraph) (c : ℕ → ℕ) (p x : ℕ) : Type 0 where
  pub not_entry : x ≢ 0
  pub other : x ≢ p
  pub source : ℕ
  pub target : ℕ
  pub edge : Edge g source target
  pub leaves : c source ≡ p
  pub enters : c target ≡ x
  pub alone : (u v : ℕ) → Edge g u v → c v ≡ x → (c u ≡ x) ⊎ (c u ≡ p)

-- c is what merges give, one after another
pub data AreMerged (g : Digraph) : (ℕ → ℕ) → Type 0 where
  apart : {c : ℕ → ℕ} → ((u : ℕ) → c u ≡ u) → AreMerged g c
  merged : {c d : ℕ → ℕ} (x p : ℕ) → AreMerged g c → CanMergeClass g c p x → ((u : ℕ) → d u ≡ renamed x p (c u)) → AreMerged g d

-- no merge is possible
abbrev pub NoneCanMerge : Digraph → (ℕ → ℕ) → Type 0
NoneCanMerge g c = (x p : ℕ) → ¬ CanMergeClass g c p x
