use Rattle.flow_table.specs.Made.{AreMade}
use Rattle.flow_table.proofs.methods.methods_of.Given as goal

abbrev pub invariant-loop-number : goal.invariant-loop-number
invariant-loop-number l = AreMade l.program l.coded l.number l.methods.items
