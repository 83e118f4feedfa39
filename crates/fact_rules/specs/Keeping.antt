-- When a walk of a method keeps the facts of it.
use Rattle.std.specs.Prelude.{◌≡◌, ℕ, ◌*◌, ◌≤◌, List, Contains}
use Rattle.loop_nest.specs.Digraph.{Digraph}
use Rattle.bytecode_model.specs.Program.{Program}
use Rattle.method_flow.specs.Graphs.{IsLiveGraph}
use Rattle.flow_facts.specs.declared.facts.Scope.{Scope}
use Rattle.flow_facts.specs.declared.facts.Scope.TheVariants.{Own, Per, In}
use Rattle.flow_facts.specs.Facts.{CountFact, Facts}
use Rattle.priced_sections.specs.Visits.{visits_of, KeepsPer}

-- the walk visits the nodes at most so often in the scope; of what counts in an activation of the root a walk of one method says nothing
abbrev pub KeepsIn : Digraph → Scope → (nodes : List ℕ) → (most : ℕ) → List ℕ → Type 0
KeepsIn g Own nodes most ns = visits_of nodes ns ≤ most
KeepsIn g (Per p) nodes most ns = KeepsPer g (2 * p) nodes most ns
KeepsIn g (In root) nodes most ns = Unit {0}

-- The walk keeps the facts of the method; entries of loops are those of its live graph.
abbrev pub WalkKeepsFacts : Program → Facts → (method : ℕ) → List ℕ → Type 0
WalkKeepsFacts P facts m ns =
    (g : Digraph) → IsLiveGraph P m g → (f : CountFact) → Contains facts.counts f → f.method ≡ m → KeepsIn g f.scope f.nodes f.most ns
