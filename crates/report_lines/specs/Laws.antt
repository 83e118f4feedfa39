-- What follows of reports.
use Rattle.std.specs.Prelude.{◌≡◌, ℕ, List, Option}
use Rattle.bound_report.specs.declared.contents.rows.ReportRow.{ReportRow}
use Rattle.bound_report.specs.declared.contents.rows.ReportTotals.{ReportTotals}
use Rattle.bound_report.specs.Contents.Rows.{cycles_of}
use Rattle.report_lines.specs.Entries.{AreEntries}
use Rattle.report_lines.specs.Text.{IsTextBy}

-- the lines of entries have together the cycles of all rows
abbrev pub LinesAddUp : Type 0
LinesAddUp =
    (source : (method place : ℕ) → Option (List ℕ × ℕ)) (rows entries : List ReportRow) → AreEntries source rows entries
    → cycles_of entries ≡ cycles_of rows

-- the rows and the totals have one text
abbrev pub ReportTextsAreOne : Type 0
ReportTextsAreOne =
    (source : (method place : ℕ) → Option (List ℕ × ℕ)) (name : (method : ℕ) → List ℕ) (rows : List ReportRow) (t : ReportTotals) (a b : List ℕ)
    → IsTextBy source name rows t a → IsTextBy source name rows t b → a ≡ b
