-- The loops of a nest by their headers.
use Rattle.std.proofs.Common.{◌≡◌, ℕ, zero, suc, ◌<◌, List, [], ◌∷◌, length, get_or, take, Contains, subst, arith}
use Rattle.std.specs.List.Sorted.{IsStrictlyIncreasing}
use Rattle.lists.specs.Members.{at_head, in_tail, rising_pair}
use Rattle.loop_nest.specs.Digraph.{Digraph, IsDigraph}
use Rattle.loop_nest.specs.Walks.{Walk}
use Rattle.loop_nest.specs.Walks.Walk.{stay, along}
use Rattle.loop_nest.proofs.Ends.{ends_within}
use Rattle.path_solver.specs.Ordering.{AreApart}

pub numbers_apart : (xs : List ℕ) → IsStrictlyIncreasing xs → AreApart xs
numbers_apart xs h i j lt below same = let less = rising_pair xs h i j lt below in omega arith

-- what stands at an earlier place is among the first ones
pub before_at : (xs : List ℕ) (j k x : ℕ) → k < j → k < length xs → get_or xs k 0 ≡ x → Contains (take j xs) x
before_at [] j k x lt below at = absurd (omega arith)
before_at (y ∷ ys) zero k x lt below at = absurd (omega arith)
before_at (y ∷ ys) (suc j) zero x lt below at = let P : ℕ → Type 0 = λ z. Contains (y ∷ take j ys) z in subst P at (at_head y (take j ys))
before_at (y ∷ ys) (suc j) (suc k) x lt below at = in_tail y x (take j ys) (before_at ys j k x (omega arith) (omega arith) at)

pub start_within : {g : Digraph} {u v : ℕ} {ns : List ℕ} → IsDigraph g → Walk g u v ns → v < g.nodes → u < g.nodes
start_within wf stay below = below
start_within wf (along {u} {v} {w} {ns} e t) below = (ends_within wf u v e).0
