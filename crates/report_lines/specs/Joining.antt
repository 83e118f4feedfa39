-- One row more among entries, and the order of entries as a test.
use Rattle.std.specs.Prelude.{ℕ, ◌+◌, Bool, List, [], ◌∷◌, Option, Contains, map, if◌then◌else◌}
use Rattle.std.specs.Ordering.{is_lt, nat_cmp, ordering_then}
use Rattle.bound_report.specs.declared.contents.rows.ReportRow.{ReportRow}
use Rattle.report_lines.specs.Entries.{key_of, same_key, rows_at, IsOfAll}

-- an entry with the cycles of a row
abbrev pub with_cycles : ReportRow → ReportRow → ReportRow
with_cycles e r = record e { cycles = e.cycles + r.cycles }

-- the entries with a row: the first that stands where it does has its cycles, too; where there is none, the row is the last
abbrev pub with_row : (source : (method place : ℕ) → Option (List ℕ × ℕ)) → List ReportRow → ReportRow → List ReportRow
with_row source [] r = r ∷ []
with_row source (e ∷ es) r = if same_key (key_of source r) (key_of source e) then with_cycles e r ∷ es else e ∷ with_row source es r

-- the entries are of these rows, in whatever order
pub record AreJoined (source : (method place : ℕ) → Option (List ℕ × ℕ)) (rows es : List ReportRow) : Type 0 where
  pub whole : (r : ReportRow) → Contains rows r → Contains (map (key_of source) es) (key_of source r)
  pub each : (e : ReportRow) → Contains es e → IsOfAll (rows_at source (key_of source e) rows) e

-- the order by cycles, method and place
abbrev pub stands_before : ReportRow → ReportRow → Bool
stands_before a b = is_lt (ordering_then (ordering_then (nat_cmp b.cycles a.cycles) (nat_cmp a.method b.method)) (nat_cmp a.place b.place))
