-- The text of a report on a method of a program: where its bound comes from, by the lines of the source (JVM Specification SE 8, 4.7.10 and 4.7.12).
use Rattle.std.specs.Prelude.{ℕ, List}
use Rattle.class_pool.specs.declared.class.ClassFile.{ClassFile}
use Rattle.name_laws.specs.Written.{written_name}
use Rattle.source_places.specs.Methods.Sources.{source_at}
use Rattle.bound_report.specs.declared.contents.rows.ReportRow.{ReportRow}
use Rattle.bound_report.specs.declared.contents.rows.ReportTotals.{ReportTotals}
use Rattle.report_lines.specs.Text.{IsTextBy}

-- The text tells the rows by the sources and the names of the program's methods, as these are written.
abbrev pub IsReportText : List ClassFile → (rows : List ReportRow) → ReportTotals → (text : List ℕ) → Type 0
IsReportText cs rows t text = IsTextBy (source_at cs) (written_name cs) rows t text
