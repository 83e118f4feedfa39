-- How often a walk visits some of the nodes, and its parts from an entry of a loop to the next.
use Rattle.std.specs.Prelude.{◌≡◌, ℕ, ◌≤◌, List, [], ◌∷◌, ◌++◌, count_by}
use Rattle.loop_nest.specs.Digraph.{Digraph}
use Rattle.loop_nest.specs.Walks.{IsBackEdge, TakesEdge}
use Rattle.section_check.specs.Bounded.{holds}

-- how often a walk is at one of the nodes
abbrev pub visits_of : (nodes : List ℕ) → List ℕ → ℕ
visits_of nodes ns = count_by (λ u. holds nodes u) ns

-- A part of a walk from an entry of the loop of h on: the walk comes to h there at its start or by an edge that is no back edge, and within the part it comes
-- to h again by back edges alone. A segment may run on behind the loop.
pub record IsSegment (g : Digraph) (h : ℕ) (ns part : List ℕ) : Type 0 where
  pub before : List ℕ
  pub further : List ℕ
  pub after : List ℕ
  pub part_is : part ≡ h ∷ further
  pub split : ns ≡ before ++ (part ++ after)
  pub enters : (earlier : List ℕ) (u : ℕ) → before ≡ earlier ++ u ∷ [] → ¬ IsBackEdge g u h
  pub stays : (u : ℕ) → TakesEdge part u h → IsBackEdge g u h

-- from each entry of the loop of h to the next, the walk visits the nodes at most so often
abbrev pub KeepsPer : Digraph → (header : ℕ) → (nodes : List ℕ) → (most : ℕ) → List ℕ → Type 0
KeepsPer g h nodes most ns = (part : List ℕ) → IsSegment g h ns part → visits_of nodes part ≤ most
