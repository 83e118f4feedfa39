-- What is proved of lines of code.
use Rattle.std.specs.Prelude.{◌≡◌, ◌↔◌, ℕ, ◌+◌, ◌<◌, ◌≤◌, ℤ, Ok, Some}
use Rattle.opcodes.specs.declared.instruction.Instr.{Instr}
use Rattle.opcodes.specs.Instruction.{decoded}
use Rattle.opcodes.specs.Start.{IsStart}
use Rattle.bytecode_model.specs.Program.{Program, Body, body_of}
use Rattle.bytecode_model.specs.Rows.{Row}
use Rattle.bytecode_model.specs.Table.{row_of}
use Rattle.code_lines.specs.Lines.{IsLine, IsPushedBefore}

-- the instruction at a start of the code, its length and its row
pub record IsReadAs (P : Program) (m : ℕ) (b : Body) (p next : ℕ) (r : Row) : Type 0 where
  pub start : IsStart b.code p
  pub instr : Instr
  pub is : decoded b.code p ≡ Ok instr
  pub behind : next ≡ p + instr.length
  pub row : row_of b.code instr (P.operand m p) ≡ Some r

-- a line is read off the code
abbrev pub LinesAreRead : Type 0
LinesAreRead = (P : Program) (m p next : ℕ) (r : Row) (b : Body) → body_of P m ≡ Some b → IsLine P m p next r ↔ IsReadAs P m b p next r

-- at most one line begins at a place
abbrev pub LinesAreOne : Type 0
LinesAreOne = (P : Program) (m p next other : ℕ) (r s : Row) → IsLine P m p next r → IsLine P m p other s → (next ≡ other) × (r ≡ s)

-- a line ends behind its place, and the next one begins there or further behind
abbrev pub LinesAreApart : Type 0
LinesAreApart = (P : Program) (m p next q other : ℕ) (r s : Row) → IsLine P m p next r → IsLine P m q other s → (p < next) × (p < q → next ≤ q)

-- at most one stands directly before a place
abbrev pub OneStandsBefore : Type 0
OneStandsBefore = (P : Program) (m p q place : ℕ) (r s : Row) → IsLine P m p place r → IsLine P m q place s → p ≡ q

-- so at most one int is pushed directly before it
abbrev pub OneIsPushedBefore : Type 0
OneIsPushedBefore = (P : Program) (m place : ℕ) (c d : ℤ) → IsPushedBefore P m place c → IsPushedBefore P m place d → c ≡ d
