-- Which line of the source an instruction is of: JVM Specification SE 8, 4.7.12.
use Rattle.std.specs.Prelude.{◌≡◌, ℕ, suc, ◌+◌, ◌*◌, ◌<◌, ◌≤◌, ◌==◌, ◌&&◌, nat_le, if◌then◌else◌, List, [], ◌∷◌, ◌++◌, length, All, MatchOption, Option, Some}
use Rattle.std.specs.Prelude.{None, codes, option_map}
use Rattle.std.specs.List.{flat_map}
use Rattle.class_pool.specs.declared.entry.Entry.{Entry}
use Rattle.class_pool.specs.declared.class.Code.{Code}
use Rattle.class_pool.specs.Kind.{is_named}
use Rattle.source_places.specs.declared.tables.starts.LineStart.{LineStart}

-- ---- a table

-- a number of two bytes
abbrev pub IsTwoBytes : List ℕ → ℕ → Type 0
IsTwoBytes bytes n = (high : ℕ) × (low : ℕ) × (bytes ≡ high ∷ low ∷ []) × (n ≡ 256 * high + low)

-- the bytes are such starts, one behind another
pub data AreLineStarts : List ℕ → List LineStart → Type 0 where
  none : AreLineStarts [] []
  one : {a b rest : List ℕ} {start line : ℕ} {es : List LineStart} → IsTwoBytes a start → IsTwoBytes b line → AreLineStarts rest es
      → AreLineStarts (a ++ b ++ rest) (record { start = start; line = line } ∷ es)

-- a LineNumberTable: how many there are, and these
abbrev pub IsLineTable : List ℕ → List LineStart → Type 0
IsLineTable bytes es = (count : List ℕ) × (rest : List ℕ) × (bytes ≡ count ++ rest) × IsTwoBytes count (length es) × AreLineStarts rest es

-- the starts that stand in bytes, by fours
abbrev pub starts_in : List ℕ → List LineStart
starts_in (a ∷ b ∷ c ∷ d ∷ rest) = record { start = 256 * a + b; line = 256 * c + d } ∷ starts_in rest
starts_in bytes = []

-- the starts of a table; bytes that are no table tell none
abbrev pub table_starts : List ℕ → List LineStart
table_starts (high ∷ low ∷ rest) = if length rest == 4 * (256 * high + low) then starts_in rest else []
table_starts bytes = []

-- the starts of bytes are those of the table that they are, and there are none where they are no table
abbrev pub TablesAreRead : Type 0
TablesAreRead =
    (bytes : List ℕ) → ((es : List LineStart) → IsLineTable bytes es → table_starts bytes ≡ es)
    × (((es : List LineStart) → ¬ IsLineTable bytes es) → table_starts bytes ≡ [])

-- ---- all tables of a code

abbrev pub starts_by : List Entry → ℕ × List ℕ → List LineStart
starts_by pool a = if is_named pool a.0 (codes "LineNumberTable") then table_starts a.1 else []

-- the starts of all tables, in their order
abbrev pub starts_of : List Entry → Code → List LineStart
starts_of pool code = flat_map (starts_by pool) code.attributes

-- of two, the one that begins later, but not behind the place; of two that begin together the later in the tables
abbrev pub nearer : (place : ℕ) → LineStart → Option LineStart → Option LineStart
nearer p e None = if nat_le e.start p then Some e else None
nearer p e (Some d) = if nat_le e.start p && nat_le (suc d.start) e.start then Some e else Some d

-- the start of the line of a place, whatever the order of the tables
abbrev pub nearest : (place : ℕ) → List LineStart → Option LineStart
nearest p [] = None
nearest p (e ∷ es) = nearer p e (nearest p es)

-- It begins not behind the place; those that do so, too, begin no later, and before it where they stand behind it in the tables.
pub record IsNearest (place : ℕ) (es : List LineStart) (e : LineStart) : Type 0 where
  pub before : List LineStart
  pub after : List LineStart
  pub parts : es ≡ before ++ e ∷ after
  pub not_behind : e.start ≤ place
  pub latest : All (λ d. d.start ≤ place → d.start ≤ e.start) before
  pub last : All (λ d. d.start ≤ place → d.start < e.start) after

-- that is the nearest; there is none where all begin behind the place
abbrev pub NearestIsNearest : Type 0
NearestIsNearest = (place : ℕ) (es : List LineStart) → MatchOption (nearest place es) (All (λ d. place < d.start) es) (IsNearest place es)

-- the line of the instruction at a place of a code
abbrev pub line_of : List Entry → Code → (place : ℕ) → Option ℕ
line_of pool code place = option_map (λ e. e.line) (nearest place (starts_of pool code))
