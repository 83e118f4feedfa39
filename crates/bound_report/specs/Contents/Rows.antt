-- The rows of a report: where they stand, and what they take together.
use Rattle.std.specs.Prelude.{◌≡◌, ℕ, ◌<◌, List, length, Contains, Some, sum_by}
use Rattle.bytecode_model.specs.Program.{Program, Body, body_of}
use Rattle.bound_report.specs.declared.contents.rows.ReportRow.{ReportRow}

-- the method has code, and the place lies in it
abbrev pub IsCodePlace : Program → (method place : ℕ) → Type 0
IsCodePlace P m p = (b : Body) × (body_of P m ≡ Some b) × (p < length b.code)

-- each row is of a place of a code
abbrev pub AreOfCode : Program → (rows : List ReportRow) → Type 0
AreOfCode P rows = (r : ReportRow) → Contains rows r → IsCodePlace P r.method r.place

-- the cycles of all rows
abbrev pub cycles_of : List ReportRow → ℕ
cycles_of rows = sum_by (λ r. r.cycles) rows
