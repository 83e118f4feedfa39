use Rattle.std.proofs.Common.{◌≡◌, [], replicate}
use Rattle.fact_checker.proofs.root_table.none_yet.Given as goal

abbrev pub invariant-loop : goal.invariant-loop
invariant-loop l = l.table.items ≡ replicate l.counter []
