use Rattle.std.proofs.Common.{◌≡◌, length}
use Rattle.bound_finder.specs.Known.{bounds_in, ForEach}
use Rattle.bound_report.proofs.Turns.{IsCounting}
use Rattle.bound_report.proofs.times.count_all.Given as goal

abbrev pub invariant-loop-m : goal.invariant-loop-m
invariant-loop-m l = record {
  long : length l.times.items ≡ length l.task.flow.methods;
  each : ForEach l.task (λ P. IsCounting P l.task.timing (bounds_in l.task) l.table l.root l.methods l.m-index l.times.items l.counted.items);
}
