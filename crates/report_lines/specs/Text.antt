-- The text of a report: where a bound comes from, by the lines of the source.
use Rattle.std.specs.Prelude.{◌≡◌, ℕ, zero, suc, ◌*◌, ◌/◌, List, ◌++◌, Option, Some, None, codes, decimal, flat_map}
use Rattle.bound_report.specs.declared.contents.rows.ReportRow.{ReportRow}
use Rattle.bound_report.specs.declared.contents.rows.ReportTotals.{ReportTotals}
use Rattle.report_lines.specs.Entries.{AreEntries}

-- a part of a bound in percent, rounded down; none of a bound of no cycles
abbrev pub share : (cycles bound : ℕ) → ℕ
share cycles zero = 0
share cycles (suc n) = 100 * cycles / suc n

-- ` cycles=C share=P%`
abbrev pub part_text : (bound cycles : ℕ) → List ℕ
part_text bound cycles = codes " cycles=" ++ (decimal cycles ++ (codes " share=" ++ (decimal (share cycles bound) ++ codes "%\n")))

-- `FILE:LINE NAME`, or `NAME PC` where no line is told
abbrev pub head_text : (name : List ℕ) → (place : ℕ) → Option (List ℕ × ℕ) → List ℕ
head_text name place None = name ++ (codes " " ++ decimal place)
head_text name place (Some s) = s.0 ++ (codes ":" ++ (decimal s.1 ++ (codes " " ++ name)))

-- the line of an entry, by what is told of the source of its place and by the name of its method
abbrev pub entry_text : (bound : ℕ) → (name : List ℕ) → Option (List ℕ × ℕ) → ReportRow → List ℕ
entry_text bound name source e = head_text name e.place source ++ (codes " visits=" ++ (decimal e.visits ++ part_text bound e.cycles))

-- what comes of no instruction
abbrev pub other_lines : ReportTotals → List ℕ
other_lines t =
    codes "loads" ++ (part_text t.bound t.loads ++ (codes "invoke" ++ (part_text t.bound t.invoke ++ (codes "return" ++ part_text t.bound t.back))))

-- by the file and the line of each place of a method, and by the names of methods
abbrev pub entry_line : (source : (method place : ℕ) → Option (List ℕ × ℕ)) → (name : (method : ℕ) → List ℕ) → (bound : ℕ) → ReportRow → List ℕ
entry_line source name bound e = entry_text bound (name e.method) (source e.method e.place) e

-- the bound, the entries' lines, and the others
abbrev pub report_lines : (source : (method place : ℕ) → Option (List ℕ × ℕ)) → (name : (method : ℕ) → List ℕ) → ReportTotals → (entries : List ReportRow)
    → List ℕ
report_lines source name t entries =
    codes "bound=" ++ (decimal t.bound ++ (codes "\n" ++ (flat_map (entry_line source name t.bound) entries ++ other_lines t)))

-- The text tells the rows, each line of the source in one line.
pub record IsTextBy (source : (method place : ℕ) → Option (List ℕ × ℕ)) (name : (method : ℕ) → List ℕ) (rows : List ReportRow) (t : ReportTotals)
    (text : List ℕ) : Type 0 where
  pub entries : List ReportRow
  pub are : AreEntries source rows entries
  pub text_is : text ≡ report_lines source name t entries
