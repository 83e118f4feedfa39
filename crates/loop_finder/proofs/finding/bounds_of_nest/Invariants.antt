use Rattle.std.proofs.Common.{slice_index}
use Rattle.loop_nest.specs.Digraph.{Digraph}
use Rattle.loop_nest.specs.Nest.{IsNest}
use Rattle.compact_walks.specs.Moving.{IsMoved}
use Rattle.loop_finder.proofs.Nests.{AreFirst}
use Rattle.loop_finder.proofs.finding.bounds_of_nest.Given as goal

abbrev pub invariant-loop-index : goal.invariant-loop-index
invariant-loop-index l = (d : Digraph) → IsMoved l.body.graph d (slice_index l.nodes) → IsNest d l.nest → AreFirst l.body (slice_index l.nodes) l.nest l.index l.bounds.items
