use Rattle.std.proofs.Common.{ℕ}
use Rattle.std.specs.Prelude.{slice_index}
use Rattle.bytecode_model.specs.Program.{Program}
use Rattle.loop_nest.specs.Digraph.{Digraph}
use Rattle.loop_nest.specs.Nest.{IsNest}
use Rattle.compact_walks.specs.Moving.{IsMoved}
use Rattle.loop_rules.specs.Further.Known.{Known}
use Rattle.loop_finder.specs.Beginning.{IsBodyOf}
use Rattle.loop_finder.proofs.Adding.{AreOfFirst}
use Rattle.loop_finder.proofs.finding.beginnings.Given as goal

abbrev pub invariant-loop-index : goal.invariant-loop-index
invariant-loop-index l = (P : Program) (known : Known) (m : ℕ) (d : Digraph) → IsBodyOf P known m l.body → IsMoved l.body.graph d (slice_index l.nodes) → IsNest d l.nest
    → AreOfFirst P known m l.body (slice_index l.nodes) l.nest l.index l.found.items
