use Rattle.std.proofs.Common.{◌≡◌, ◌<◌, ◌^◌, sum_by, take}
use Rattle.bound_report.specs.Report.{loads_in}
use Rattle.bound_report.proofs.parts.loads_of.Given as goal

abbrev pub invariant-loop-k : goal.invariant-loop-k
invariant-loop-k l = sum_by loads_in (take l.k-index l.ks) < 2 ^ 128 → l.cycles ≡ sum_by loads_in (take l.k-index l.ks)
