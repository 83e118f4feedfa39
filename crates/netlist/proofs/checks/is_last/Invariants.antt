use Rattle.netlist.specs.WellFormed.{names_in}
use Rattle.netlist.proofs.Names.{IsLastUpTo}
use Rattle.netlist.proofs.checks.is_last.Given as goal

abbrev pub invariant-loop-later : goal.invariant-loop-later
invariant-loop-later l = IsLastUpTo (names_in l.n) l.k l.later
