use Rattle.std.proofs.Common.{◌≡◌, [], take}
use Rattle.netlist.specs.Meaning.{with_wires}
use Rattle.netlist.specs.Evaluation.{words_with}
use Rattle.netlist.proofs.circuit.wires_of.Given as goal

abbrev pub invariant-loop-e : goal.invariant-loop-e
invariant-loop-e l = words_with l.inputs l.c l.wires.items ≡ with_wires (words_with l.inputs l.c []) (take l.e-index l.e-items)
