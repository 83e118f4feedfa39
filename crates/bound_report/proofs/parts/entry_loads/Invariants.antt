use Rattle.std.proofs.Common.{◌≡◌, ◌<◌, ◌^◌, take}
use Rattle.bound_report.specs.Report.{products}
use Rattle.bound_report.proofs.parts.entry_loads.Given as goal

abbrev pub invariant-loop-i : goal.invariant-loop-i
invariant-loop-i l = products (take l.i l.entered) (take l.i l.fees) < 2 ^ 128 → l.cycles ≡ products (take l.i l.entered) (take l.i l.fees)
