-- What is found in a code: which of its places are named, and which instruction ends at each.
use Rattle.std.specs.Prelude.{◌≡◌, ◌↔◌, ℕ, Bool, true, List, Option, None, MatchOption, slice_index_or}
use Rattle.bytecode_model.specs.Program.{Program}
use Rattle.bytecode_model.specs.Rows.{Row}
use Rattle.code_lines.specs.Lines.{IsLine, IsNamed}
use Rattle.code_scan.specs.Marks.{mark_at}

-- for each place a mark, and the place of the instruction that ends there
pub record Scanned : Type 0 where
  pub named : List Bool
  pub before : List (Option ℕ)

abbrev pub is_named : Scanned → (place : ℕ) → Bool
is_named s q = mark_at s.named q

abbrev pub line_before : Scanned → (place : ℕ) → Option ℕ
line_before s q = slice_index_or s.before q None

-- the instruction directly before a place, where there is one
abbrev pub IsBefore : Program → (method place : ℕ) → Option ℕ → Type 0
IsBefore P m q o = MatchOption o ((p : ℕ) (r : Row) → ¬ IsLine P m p q r) (λ p. (r : Row) × IsLine P m p q r)

-- it is found in the method's code
pub record IsScanOf (P : Program) (m : ℕ) (s : Scanned) : Type 0 where
  pub named : (q : ℕ) → (is_named s q ≡ true) ↔ IsNamed P m q
  pub before : (q : ℕ) → IsBefore P m q (line_before s q)
