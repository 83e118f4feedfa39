-- Which places a method names, and where its instructions end, told by its code and its exception table (JVM Specification SE 8, 4.7.3 and 6.5).
use Rattle.std.specs.Prelude.{◌≡◌, ◌⊎◌, ◌↔◌, ℕ, ◌+◌, List, map, Contains, ℤ, pos, ◌+ℤ◌, Ok}
use Rattle.opcodes.specs.declared.instruction.Instr.{Instr}
use Rattle.opcodes.specs.Instruction.{decoded}
use Rattle.opcodes.specs.Start.{IsStart}
use Rattle.opcodes.specs.Target.{cases_of, targets_of}
use Rattle.bytecode_model.specs.Program.{Program}
use Rattle.bytecode_model.specs.Rows.{Row}
use Rattle.method_flow.specs.declared.flow.HandlerRange.{HandlerRange}
use Rattle.method_flow.specs.Flow.{Coded, IsCodedOf}
use Rattle.code_lines.specs.Lines.{IsLine, IsNamed}

-- the places that the cases of a switch name
abbrev pub case_places : (code : List ℕ) → (p : ℕ) → Instr → List ℤ
case_places code p instr = map (λ c. pos p +ℤ c.offset) (cases_of code instr)

-- the instruction at the place p names the place q
pub record NamesIn (code : List ℕ) (p q : ℕ) : Type 0 where
  pub start : IsStart code p
  pub instr : Instr
  pub is : decoded code p ≡ Ok instr
  pub names : Contains (targets_of code p instr) (pos q)

-- a range has its handler at the place
abbrev pub HandlesAt : List HandlerRange → ℕ → Type 0
HandlesAt ranges q = (r : HandlerRange) × Contains ranges r × (r.handler ≡ q)

abbrev pub IsNamedIn : Coded → ℕ → Type 0
IsNamedIn k q = ((p : ℕ) × NamesIn k.code p q) ⊎ HandlesAt k.ranges q

-- the instruction at the place p ends at the place q
pub record EndsAt (code : List ℕ) (p q : ℕ) : Type 0 where
  pub start : IsStart code p
  pub instr : Instr
  pub is : decoded code p ≡ Ok instr
  pub behind : q ≡ p + instr.length

-- ---- laws

-- so of a program whose method it is
abbrev pub NamesAreRead : Type 0
NamesAreRead = (P : Program) (m : ℕ) (k : Coded) → IsCodedOf P m k → (q : ℕ) → IsNamed P m q ↔ IsNamedIn k q

abbrev pub EndsAreRead : Type 0
EndsAreRead = (P : Program) (m : ℕ) (k : Coded) → IsCodedOf P m k → (p q : ℕ) → ((r : Row) × IsLine P m p q r) ↔ EndsAt k.code p q
