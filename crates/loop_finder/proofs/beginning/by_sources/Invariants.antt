use Rattle.std.proofs.Common.{ℕ, take}
use Rattle.bytecode_model.specs.Program.{Program}
use Rattle.loop_nest.specs.Digraph.{sources_of}
use Rattle.loop_rules.specs.Further.Known.{Known}
use Rattle.loop_marks.specs.Marking.{AreMarksOf}
use Rattle.loop_finder.specs.Beginning.{IsBodyOf, IsKnownBeginning}
use Rattle.loop_finder.proofs.beginning.by_sources.Given as goal

-- so by the first edges
abbrev pub invariant-loop-node : goal.invariant-loop-node
invariant-loop-node l = (P : Program) (known : Known) (m : ℕ) → IsBodyOf P known m l.body → AreMarksOf l.body.graph l.marks
    → IsKnownBeginning P known m l.body.graph l.marks.header l.local (take l.node-index (sources_of l.body.graph.edges l.marks.header)) l.so_far
