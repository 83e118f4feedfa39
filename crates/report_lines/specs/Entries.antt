-- The rows of a report that stand on one line of the source, as one entry.
use Rattle.std.specs.Prelude.{◌≡◌, ◌≢◌, ◌⊎◌, ℕ, ◌<◌, ◌==◌, ◌&&◌, Bool, false, List, [], ◌∷◌, Option, Some, None, Contains, AllPairs, filter}
use Rattle.report_lines.specs.declared.key.Key.{Key}
use Rattle.report_lines.specs.declared.key.Spot.{Spot}
use Rattle.report_lines.specs.declared.key.Spot.TheVariants.{Line, Place}
use Rattle.bound_report.specs.declared.contents.rows.ReportRow.{ReportRow}
use Rattle.bound_report.specs.Contents.Rows.{cycles_of}

-- ---- where a row stands

-- on the line of the source, or at the place where no line is told
abbrev pub spot_by : (place : ℕ) → Option (List ℕ × ℕ) → Spot
spot_by p None = Place p
spot_by p (Some s) = Line s.1

-- where a row stands, by the file and the line of each place of a method; a method is of one file
abbrev pub key_of : (source : (method place : ℕ) → Option (List ℕ × ℕ)) → ReportRow → Key
key_of source r = record { method = r.method; spot = spot_by r.place (source r.method r.place) }

abbrev pub same_spot : Spot → Spot → Bool
same_spot (Line a) (Line b) = a == b
same_spot (Place a) (Place b) = a == b
same_spot (Line a) (Place b) = false
same_spot (Place a) (Line b) = false

abbrev pub same_key : Key → Key → Bool
same_key a b = a.method == b.method && same_spot a.spot b.spot

-- ---- one entry

-- the rows that stand there
abbrev pub rows_at : (source : (method place : ℕ) → Option (List ℕ × ℕ)) → Key → List ReportRow → List ReportRow
rows_at source k rows = filter (λ r. same_key k (key_of source r)) rows

-- these rows as one: the first of them, with the cycles of all
abbrev pub IsOfAll : List ReportRow → ReportRow → Type 0
IsOfAll [] e = ⊥
IsOfAll (r ∷ rs) e = e ≡ record r { cycles = cycles_of (r ∷ rs) }

-- ---- all entries

-- more cycles come first; of as many the lower method, and then the lower place
abbrev pub ComesBefore : ReportRow → ReportRow → Type 0
ComesBefore a b = (b.cycles < a.cycles) ⊎ ((a.cycles ≡ b.cycles) × ((a.method < b.method) ⊎ ((a.method ≡ b.method) × (a.place < b.place))))

-- The entries are of the rows: each row stands where an entry does, and no two entries stand at one spot.
pub record AreEntries (source : (method place : ℕ) → Option (List ℕ × ℕ)) (rows entries : List ReportRow) : Type 0 where
  pub apart : AllPairs (λ a b. key_of source a ≢ key_of source b) entries
  pub whole : (r : ReportRow) → Contains rows r → (e : ReportRow) × Contains entries e × (key_of source e ≡ key_of source r)
  pub each : (e : ReportRow) → Contains entries e → IsOfAll (rows_at source (key_of source e) rows) e
  pub ordered : AllPairs ComesBefore entries
