-- What is proved of methods whose loops are searched.
use Rattle.std.specs.Prelude.{ℕ}
use Rattle.bytecode_model.specs.Program.{Program}
use Rattle.loop_nest.specs.Digraph.{Digraph}
use Rattle.method_flow.specs.Graphs.{IsGraphOf}
use Rattle.loop_rules.specs.Counted.{EachCycleIsALoop}
use Rattle.loop_rules.specs.Finding.{IsReducibleWhenCompact}

-- in a method's graph that is reducible, every cycle takes a back edge
abbrev pub ReducibleCyclesAreLoops : Type 0
ReducibleCyclesAreLoops = (P : Program) (m : ℕ) (g : Digraph) → IsGraphOf P m g → IsReducibleWhenCompact g → EachCycleIsALoop g
