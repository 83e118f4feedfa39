use Rattle.std.proofs.Common.{map, take}
use Rattle.bound_report.specs.Report.{row_of}
use Rattle.bound_report.specs.Rows.{AreSmallRows, AddsRows}
use Rattle.bound_report.proofs.rows.add_rows.Given as goal

abbrev pub invariant-loop-c : goal.invariant-loop-c
invariant-loop-c l = AreSmallRows l.k → AddsRows (map (row_of l.k) (take l.c-index l.k.nodes.items)) l.initial.rows.items l.rows.items
