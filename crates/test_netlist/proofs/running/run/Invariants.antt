use Rattle.netlist.specs.WellFormed.{IsStateOf}
use Rattle.test_netlist.proofs.running.run.Given as goal

abbrev pub invariant-loop-words : goal.invariant-loop-words
invariant-loop-words l = IsStateOf l.n l.circuit
