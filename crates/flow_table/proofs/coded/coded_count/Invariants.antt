use Rattle.flow_table.proofs.Coding.{AllCoded}
use Rattle.flow_table.proofs.coded.coded_count.Given as goal

abbrev pub invariant-loop-number : goal.invariant-loop-number
invariant-loop-number l = AllCoded l.program l.number
