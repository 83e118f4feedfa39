-- Sections of a graph whose nodes have other numbers.
use Rattle.std.specs.Prelude.{◌≡◌, ℕ, ◌<◌, List, map, slice_index, Contains, Option}
use Rattle.loop_nest.specs.Digraph.{Digraph, IsDigraph, Edge}
use Rattle.section_check.specs.Section.{CertifiedLoop, Certified, priced, IsInForm}
use Rattle.section_check.specs.Conditions.{IsAccepted, value_of}

-- Node u of the graph d is node `node u` of g. The numbers keep their order, the entry is the entry, and each edge and each exit of g is one of d. The other
-- numbers of g have no edges, and no exit is among them.
pub record IsRenumbered (d g : Digraph) (node : ℕ → ℕ) : Type 0 where
  pub digraph : IsDigraph d
  pub entry : node 0 ≡ 0
  pub within : (u : ℕ) → u < d.nodes → node u < g.nodes
  pub rising : (u v : ℕ) → u < v → v < d.nodes → node u < node v
  pub edges : (x y : ℕ) → Edge g x y → (u v : ℕ) × Edge d u v × (node u ≡ x) × (node v ≡ y)
  pub exits : (x : ℕ) → Contains g.exits x → (u : ℕ) × Contains d.exits u × (node u ≡ x)

-- each node of d has its cost under its other number
abbrev pub AreMovedCosts : Digraph → (ℕ → ℕ) → List ℕ → List ℕ → Type 0
AreMovedCosts d node costs moved = (u : ℕ) → u < d.nodes → slice_index moved (node u) ≡ slice_index costs u

-- a loop, and a section, with other numbers of nodes
abbrev pub moved_loop : (ℕ → ℕ) → CertifiedLoop → CertifiedLoop
moved_loop node l = record l { header = node l.header; members = map node l.members }

abbrev pub moved : (ℕ → ℕ) → Certified → Certified
moved node c = record { nodes = map (λ p. (node p.0, p.1)) c.nodes; loops = map (moved_loop node) c.loops }

-- an accepted section stays accepted under other numbers, with its value
abbrev pub RenumberedStaysAccepted : Type 0
RenumberedStaysAccepted =
    (d g : Digraph) (node : ℕ → ℕ) (costs others : List ℕ) (c : Certified) (bounds : List ℕ) (loads : List (Option ℕ)) → IsRenumbered d g node
    → AreMovedCosts d node costs others
    → IsAccepted d costs c bounds loads
    → IsAccepted g others (moved node c) bounds loads × (value_of (moved node c) (priced (map (moved_loop node) c.loops) bounds loads) ≡ value_of c
    (priced c.loops bounds loads))

-- and it stays in form
abbrev pub RenumberedStaysInForm : Type 0
RenumberedStaysInForm =
    (d g : Digraph) (node : ℕ → ℕ) (costs : List ℕ) (c : Certified) (bounds : List ℕ) (loads : List (Option ℕ)) → IsRenumbered d g node
    → IsAccepted d costs c bounds loads
    → IsInForm c bounds loads → IsInForm (moved node c) bounds loads
