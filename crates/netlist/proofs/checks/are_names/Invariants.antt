use Rattle.netlist.specs.WellFormed.{names_in}
use Rattle.netlist.proofs.Names.{AreNamesUpTo}
use Rattle.netlist.proofs.checks.are_names.Given as goal

abbrev pub invariant-loop-k : goal.invariant-loop-k
invariant-loop-k l = AreNamesUpTo (names_in l.n) l.k
