use Rattle.flow_table.specs.Names.{NoneBefore}
use Rattle.flow_table.proofs.program.find_method.Given as goal

abbrev pub invariant-loop-number : goal.invariant-loop-number
invariant-loop-number l = NoneBefore l.f l.name l.number
