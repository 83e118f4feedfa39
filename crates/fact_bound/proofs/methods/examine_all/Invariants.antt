use Rattle.fact_bound.specs.Search.{IsTable}
use Rattle.fact_bound.proofs.methods.examine_all.Given as goal

abbrev pub invariant-loop-m : goal.invariant-loop-m
invariant-loop-m l = IsTable l.task l.all.table.items
