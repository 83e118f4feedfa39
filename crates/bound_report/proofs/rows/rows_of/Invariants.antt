use Rattle.std.proofs.Common.{◌≡◌, take}
use Rattle.bound_report.specs.Report.{rows_of}
use Rattle.bound_report.specs.Rows.{AreSmallParts}
use Rattle.bound_report.proofs.rows.rows_of.Given as goal

abbrev pub invariant-loop-k : goal.invariant-loop-k
invariant-loop-k l = AreSmallParts l.ks → l.rows.items ≡ rows_of (take l.k-index l.ks)
