use Rattle.std.proofs.Common.{◌≡◌}
use Rattle.netlist.proofs.Edges.{some_after}
use Rattle.netlist.proofs.circuit.pass_edges.Given as goal

abbrev pub invariant-loop-k : goal.invariant-loop-k
invariant-loop-k l = l.memories ≡ some_after l.k l.ports l.unknown l.initial.memories
