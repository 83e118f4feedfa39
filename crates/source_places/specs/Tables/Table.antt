-- The lines of places, one by one.
use Rattle.std.specs.Prelude.{ℕ, zero, suc, ◌==◌, if◌then◌else◌, List, [], ◌∷◌, Option, Some, None, slice_index_or, option_map}
use Rattle.std.specs.Option.{option_or}
use Rattle.source_places.specs.declared.tables.starts.LineStart.{LineStart}

-- the last of the starts at a place
abbrev pub last_start : (place : ℕ) → List LineStart → Option LineStart
last_start p [] = None
last_start p (e ∷ es) = option_or (last_start p es) (if e.start == p then Some e else None)

-- its line
abbrev pub last_at : (place : ℕ) → List LineStart → Option ℕ
last_at p es = option_map (λ e. e.line) (last_start p es)

-- the last line that is told at so many places
abbrev pub carried : List (Option ℕ) → (places : ℕ) → Option ℕ
carried lines zero = None
carried lines (suc n) = option_or (slice_index_or lines n None) (carried lines n)
