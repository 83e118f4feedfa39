-- Tables and names that are worked out by hand.
use Rattle.std.specs.Prelude.{◌≡◌, ℕ, List, [], ◌∷◌, Option, Some, None, option_map, codes}
use Rattle.source_places.specs.declared.tables.starts.LineStart.{LineStart}
use Rattle.source_places.specs.Tables.Lines.{table_starts, nearest}
use Rattle.source_places.specs.Tables.Source.{folder_in}

abbrev at : (start line : ℕ) → LineStart
at start line = record { start = start; line = line }

abbrev line_in : (place : ℕ) → List LineStart → Option ℕ
line_in place es = option_map (λ e. e.line) (nearest place es)

pub record Examples : Type 0 where
  -- two starts; a count that is too great; a byte too many; no count
  pub two : table_starts (0 ∷ 2 ∷ 0 ∷ 0 ∷ 0 ∷ 5 ∷ 1 ∷ 8 ∷ 0 ∷ 6 ∷ []) ≡ at 0 5 ∷ at 264 6 ∷ []
  pub short : table_starts (0 ∷ 2 ∷ 0 ∷ 0 ∷ 0 ∷ 5 ∷ []) ≡ []
  pub long : table_starts (0 ∷ 1 ∷ 0 ∷ 0 ∷ 0 ∷ 5 ∷ 0 ∷ []) ≡ []
  pub empty : table_starts [] ≡ []
  -- in order, out of order, before the first, two at one place
  pub between : line_in 7 (at 0 5 ∷ at 8 6 ∷ []) ≡ Some 5
  pub there : line_in 8 (at 0 5 ∷ at 8 6 ∷ []) ≡ Some 6
  pub turned : line_in 9 (at 8 6 ∷ at 0 5 ∷ []) ≡ Some 6
  pub before : line_in 3 (at 8 6 ∷ at 4 5 ∷ []) ≡ None
  pub twice : line_in 9 (at 8 6 ∷ at 8 7 ∷ at 0 5 ∷ []) ≡ Some 7
  -- the folder of a package
  pub folder : folder_in (codes "a/b/Main") ≡ codes "a/b/"
  pub unnamed : folder_in (codes "Main") ≡ []
