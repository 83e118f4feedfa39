-- Why a graph has no nest.
use Rattle.std.specs.Prelude.{◌≢◌, []}
use Rattle.loop_nest.specs.declared.loops.NestFault.{NestFault}
use Rattle.loop_nest.specs.declared.loops.NestFault.TheVariants.{Irreducible, NoMemory}
use Rattle.loop_nest.specs.Digraph.{Digraph}
use Rattle.loop_nest.specs.Reduction.{Leaves}

-- the reduction leaves exactly these nodes beside node 0, and there are some; of want of memory nothing is said
abbrev pub HasCause : Digraph → NestFault → Type 0
HasCause g (Irreducible left) = Leaves g left.items × (left.items ≢ [])
HasCause g NoMemory = Unit {0}
