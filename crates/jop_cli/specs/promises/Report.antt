-- What `report` promises: its lines add up to a bound that is kept.
use Rattle.std.specs.Prelude.{◌≡◌, ℕ, ◌+◌, List, Ok}
use Rattle.command_line.specs.declared.command.Command.TheVariants.{Report as ToReport}
use Rattle.method_flow.specs.Keeping.{BoundOf}
use Rattle.method_flow.specs.declared.timing.Timing.{Timing}
use Rattle.bound_report.specs.declared.contents.rows.ReportRow.{ReportRow}
use Rattle.bound_report.specs.Contents.Rows.{cycles_of as rows_cycles}
use Rattle.bound_report.specs.declared.reports.Report.{Report}
use Rattle.bound_report.specs.Report.{IsReportOf}
use Rattle.source_places.specs.Methods.Sources.{source_at}
use Rattle.report_lines.specs.Entries.{AreEntries}
use Rattle.ask_commands.specs.Reporting.{reported_bound, SaysReport}
use Rattle.jop_cli.specs.promises.Words.{ClassFile, resolved, Grew, AreFiles, BoundsActivations, Settings, Parts, timing_of, bounds_of, text_of_word, Call}
use Rattle.jop_cli.specs.promises.Words.{command_of, Written}
use Rattle.jop_cli.specs.promises.Images.{IsOpened}

-- ---- `report`

-- The bound in a report is the sum of what its lines say: the cycles of the lines of the source, the loads, the invoke and the return.
abbrev pub ReportsAddUp : Type 0
ReportsAddUp =
    (cs : List ClassFile) (t : Timing) (bound_of : BoundOf) (root : ℕ) (r : Report) (entries : List ReportRow) → IsReportOf (resolved cs) t bound_of root r
    → AreEntries (source_at cs) r.rows.items entries → r.totals.bound ≡ r.totals.invoke + rows_cycles entries + r.totals.loads + r.totals.back

-- The lines were put of the report on the method of this name, and its bound is kept by the method's activations.
pub record ShowsReport (c : Call) (settings : Settings) (method image : ℕ) : Type 0 where
  pub files : List (List ℕ)
  pub are : AreFiles c.old.files image (image + 2) files
  pub linked : Parts
  pub opened : IsOpened (text_of_word files 0) linked
  pub text : List ℕ
  pub says : SaysReport linked.classes settings (text_of_word files 1) (text_of_word c.words method) text
  pub put : Grew c.old.out c.new.out text
  pub kept : BoundsActivations (resolved linked.classes) (timing_of settings) (bounds_of linked.classes says.bounds) says.root (reported_bound says.report)

abbrev pub ReportsAreKept : Type 0
ReportsAreKept =
    (c : Call) (settings : Settings) (method image bounds : ℕ) → command_of c.words ≡ Ok (ToReport settings method image bounds) → c.outcome ≡ Written
    → ShowsReport c settings method image
