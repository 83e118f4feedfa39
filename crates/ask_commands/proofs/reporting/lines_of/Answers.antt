use Rattle.std.proofs.Common.{◌≡◌, ◌+◌, List, Option, sym, subst}
use Rattle.program_tables.specs.Resolved.{resolved}
use Rattle.bound_report.specs.declared.contents.rows.ReportRow.{ReportRow}
use Rattle.bound_report.specs.Contents.Rows.{AreOfCode, cycles_of}
use Rattle.bound_report.specs.declared.reports.Report.{Report}
use Rattle.ask_commands.specs.Reporting.{HasParts}
use Rattle.ask_commands.proofs.reporting.lines_of.Goals as goal

pub rows_text-requires-clause-known : goal.rows_text-requires-clause-known
rows_text-requires-clause-known c =
    let H : Option Report → Type 0 = λ o. HasParts (resolved c.args.program.now) o in
    let h = subst H c.in-Some.is c.requires in
    let K : List ReportRow → Type 0 = λ rows. AreOfCode (resolved c.args.program.now) rows in
    subst K (sym c.deref.ensures.value) (c.rows_are_of_code.ensures (resolved c.args.program.now) h.0 h.1 h.2 c.in-Some.report h.3)

pub rows_text-requires-clause-sum : goal.rows_text-requires-clause-sum
rows_text-requires-clause-sum c =
    let H : Option Report → Type 0 = λ o. HasParts (resolved c.args.program.now) o in
    let h = subst H c.in-Some.is c.requires in
    let t = c.in-Some.report.totals in
    let S : List ReportRow → Type 0 = λ rows. t.bound ≡ t.invoke + cycles_of rows + t.loads + t.back in
    subst S (sym c.deref.ensures.value) (c.parts_add_up.ensures (resolved c.args.program.now) h.0 h.1 h.2 c.in-Some.report h.3)
