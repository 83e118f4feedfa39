use Rattle.std.proofs.Common.{◌≡◌, filter, reverse, take}
use Rattle.bound_report.specs.Adding.{has_number}
use Rattle.bound_report.proofs.times.callers_first.Given as goal

abbrev pub invariant-loop-i : goal.invariant-loop-i
invariant-loop-i l = l.methods.items ≡ filter (has_number l.table) (take l.i (reverse l.order))
