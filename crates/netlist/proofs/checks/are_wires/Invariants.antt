use Rattle.std.proofs.Common.{take}
use Rattle.netlist.specs.WellFormed.{AreWires, widths_before}
use Rattle.netlist.proofs.checks.are_wires.Given as goal

abbrev pub invariant-loop-k : goal.invariant-loop-k
invariant-loop-k l = AreWires (widths_before 0 l.n) (take l.k l.n.wires)
