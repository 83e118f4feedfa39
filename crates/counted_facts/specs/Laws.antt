-- What is read off the code of a loop that counts is kept, along the visits of a frame.
use Rattle.std.specs.Prelude.{◌≡◌, ℕ, List, [], ◌∷◌}
use Rattle.bytecode_model.specs.Program.{Program}
use Rattle.loop_nest.specs.Digraph.{Digraph}
use Rattle.loop_nest.specs.Walks.{Walk}
use Rattle.method_flow.specs.Nodes.{At, number_of}
use Rattle.method_flow.specs.Graphs.{IsGraphOf, IsLiveGraph}
use Rattle.loop_rules.specs.Counted.{EachCycleIsALoop}
use Rattle.loop_rules.specs.Further.Known.{Known}
use Rattle.counted_laws.specs.Visits.{Visit, Path}
use Rattle.priced_sections.specs.Visits.{KeepsPer}
use Rattle.counted_facts.specs.Stays.{StaysFurther}

-- visits from a method's first instruction on come to the place behind the test at most so often from an entry of the loop to the next
abbrev pub StayingPathsKeep : Type 0
StayingPathsKeep =
    (P : Program) (known : Known) (m : ℕ) (g : Digraph) (h n y : ℕ) (a b : Visit) (us : List ℕ) → IsGraphOf P m g → EachCycleIsALoop g
    → StaysFurther P known m g h n y
    → a.node ≡ At 0 → Path P known m a b us → KeepsPer g (number_of (At h)) (number_of (At y) ∷ []) n us

-- A walk of the live graph that keeps such a fact by the entries of the whole graph keeps it by its own: in a graph of which each cycle takes a back edge, an
-- edge to h that is a back edge of the live graph is one of the whole.
abbrev pub LiveEntriesAreEntries : Type 0
LiveEntriesAreEntries =
    (P : Program) (m : ℕ) (whole live : Digraph) (h most last : ℕ) (nodes ns : List ℕ) → IsGraphOf P m whole → IsLiveGraph P m live → EachCycleIsALoop whole
    → Walk live 0 last ns → KeepsPer whole h nodes most ns → KeepsPer live h nodes most ns
