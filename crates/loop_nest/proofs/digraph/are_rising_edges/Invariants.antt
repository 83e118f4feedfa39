use Rattle.std.specs.List.{AllAdjacentBelow}
use Rattle.loop_nest.specs.Digraph.{IsBefore}
use Rattle.loop_nest.proofs.digraph.are_rising_edges.Given as goal

abbrev pub invariant-loop-i : goal.invariant-loop-i
invariant-loop-i l = AllAdjacentBelow IsBefore l.edges l.i
