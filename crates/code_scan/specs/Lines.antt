-- Lines of a method, as far as code alone tells them, and ints that are pushed.
use Rattle.std.specs.Prelude.{◌≡◌, ◌↔◌, ℕ, ℤ, List, map, Contains, Option, MatchOption}
use Rattle.std.specs.List.Sorted.{IsStrictlyIncreasing}
use Rattle.bytecode_model.specs.declared.Value.TheVariants.{Int}
use Rattle.bytecode_model.specs.Program.{Program}
use Rattle.bytecode_model.specs.Rows as rows
use Rattle.bytecode_model.specs.Rows.{Row}
use Rattle.code_lines.specs.Lines.{IsLine, IsPushedBefore}
use Rattle.code_scan.specs.declared.lines.IntLine.{IntLine}
use Rattle.code_scan.specs.declared.scan.PushedInt.{PushedInt}
use Rattle.code_scan.specs.Rows.{Tells}

-- it is the line at its place
abbrev pub IsIntLine : Program → (method : ℕ) → IntLine → Type 0
IsIntLine P m l = (r : Row) × IsLine P m l.place l.next r × Tells l.row r

-- such a line stands for this one
abbrev pub IsToldBy : List IntLine → (place next : ℕ) → Row → Type 0
IsToldBy ls p next r = (l : IntLine) × Contains ls l × (l.place ≡ p) × (l.next ≡ next) × Tells l.row r

-- these are just the lines of the method, rising
pub record AreIntLines (P : Program) (m : ℕ) (ls : List IntLine) : Type 0 where
  pub rising : IsStrictlyIncreasing (map (λ l. l.place) ls)
  pub each : (p next : ℕ) (r : Row) → IsLine P m p next r → IsToldBy ls p next r
  pub only : (l : IntLine) → Contains ls l → IsIntLine P m l

-- these are just the ints that the method's instructions push, rising by place
pub record ArePushed (P : Program) (m : ℕ) (xs : List PushedInt) : Type 0 where
  pub rising : IsStrictlyIncreasing (map (λ x. x.place) xs)
  pub each : (x : PushedInt) → Contains xs x ↔ ((next : ℕ) × IsLine P m x.place next (rows.Push (Int x.value)))

-- the int that is pushed directly before a place, where one is
abbrev pub IsIntBefore : Program → (method place : ℕ) → Option ℤ → Type 0
IsIntBefore P m q o = MatchOption o ((c : ℤ) → ¬ IsPushedBefore P m q c) (IsPushedBefore P m q)

-- the value among these at the place, where there is one
abbrev pub IsValueAt : List PushedInt → (place : ℕ) → Option ℤ → Type 0
IsValueAt xs p o = MatchOption o ((c : ℤ) → ¬ Contains xs (record { place = p; value = c })) (λ c. Contains xs (record { place = p; value = c }))
