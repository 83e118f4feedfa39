-- Where an instruction may lead: its branch offset, the default offset and the cases of a switch: JVM Specification SE 8, 6.5.
use Rattle.std.specs.Prelude.{◌≡◌, ◌≢◌, ℕ, ◌+◌, ◌*◌, ◌<◌, ◌≤◌, List, [], ◌∷◌, ◌++◌, length, map, ℤ, pos, ◌+ℤ◌, Ok, Option, Some, None, Bool, true, false}
use Rattle.std.specs.List.{range_with_len}
use Rattle.opcodes.specs.declared.instruction.Instr.{Instr}
use Rattle.opcodes.specs.declared.instruction.Case.{Case}
use Rattle.opcodes.specs.declared.table.Kind.TheVariants.{Plain, Branch, Jump, Switch, Return, Throw, Invoke}
use Rattle.opcodes.specs.Bytes.{u1, s4}
use Rattle.opcodes.specs.Form.{FixedOperand, Offset, WideOffset, Form, Fixed, TableSwitch, LookupSwitch}
use Rattle.opcodes.specs.Instruction.{decoded}
use Rattle.opcodes.specs.Row.{row_of}

-- entry k of a `tableswitch`: its keys count up from the low value
abbrev pub table_case : List ℕ → Instr → ℕ → Case
table_case code instr k = record { key = instr.second +ℤ pos k; offset = s4 code (instr.table + 4 * k) }

-- pair k of a `lookupswitch`
abbrev pub lookup_case : List ℕ → Instr → ℕ → Case
lookup_case code instr k = record { key = s4 code (instr.table + 8 * k); offset = s4 code (instr.table + 8 * k + 4) }

-- the cases of a switch in the order of the code, the default apart; none of another instruction
abbrev pub cases_by : Form → List ℕ → Instr → List Case
cases_by TableSwitch code instr = map (table_case code instr) (range_with_len 0 instr.count)
cases_by LookupSwitch code instr = map (lookup_case code instr) (range_with_len 0 instr.count)
cases_by _ code instr = []

abbrev pub cases_of : List ℕ → Instr → List Case
cases_of code instr = cases_by (row_of instr.op).form code instr

-- the branch offset that an operand is
abbrev pub operand_offset : FixedOperand → Instr → List ℤ
operand_offset Offset instr = instr.first ∷ []
operand_offset WideOffset instr = instr.first ∷ []
operand_offset _ instr = []

-- the branch offset of an instruction, or the default offset of a switch
abbrev pub first_offset_by : Form → Instr → List ℤ
first_offset_by (Fixed plain) instr = operand_offset plain.first instr
first_offset_by TableSwitch instr = instr.first ∷ []
first_offset_by LookupSwitch instr = instr.first ∷ []
first_offset_by _ instr = []

-- the places that the instruction at pc names as targets: that of its branch or default offset, then those of its cases
abbrev pub targets_of : List ℕ → ℕ → Instr → List ℤ
targets_of code pc instr =
    map (λ offset. pos pc +ℤ offset) (first_offset_by (row_of instr.op).form instr ++ map (λ c. c.offset) (cases_of code instr))

-- whether an operand is a branch offset
abbrev pub is_offset : FixedOperand → Bool
is_offset Offset = true
is_offset WideOffset = true
is_offset _ = false

-- whether an instruction of this form has a branch offset or a default offset
abbrev pub leads : Form → Bool
leads (Fixed plain) = is_offset plain.first
leads TableSwitch = true
leads LookupSwitch = true
leads _ = false

-- the places of an answer
abbrev pub or_none : Option ℤ → List ℤ
or_none None = []
or_none (Some place) = place ∷ []

-- ---- laws

-- what an opcode's kind says of its targets: a branch and a jump have one, `ret` (169) excepted, a switch the default and its cases, and no other
-- instruction has any
pub record TargetsFitKind (code : List ℕ) (pc : ℕ) (instr : Instr) : Type 0 where
  pub branch : (row_of instr.op).kind ≡ Branch → targets_of code pc instr ≡ (pos pc +ℤ instr.first) ∷ []
  pub jump : (row_of instr.op).kind ≡ Jump → instr.op ≢ 169 → targets_of code pc instr ≡ (pos pc +ℤ instr.first) ∷ []
  pub ret : instr.op ≡ 169 → targets_of code pc instr ≡ []
  pub switch : (row_of instr.op).kind ≡ Switch
      → targets_of code pc instr ≡ map (λ offset. pos pc +ℤ offset) (instr.first ∷ map (λ c. c.offset) (cases_of code instr))
  pub plain : (row_of instr.op).kind ≡ Plain → targets_of code pc instr ≡ []
  pub return : (row_of instr.op).kind ≡ Return → targets_of code pc instr ≡ []
  pub throw : (row_of instr.op).kind ≡ Throw → targets_of code pc instr ≡ []
  pub invoke : (row_of instr.op).kind ≡ Invoke → targets_of code pc instr ≡ []

-- a whole instruction is not empty and ends within the code, and the cases of a switch reach just to its end
pub record EndsWithin (code : List ℕ) (pc : ℕ) (instr : Instr) : Type 0 where
  pub not_empty : 0 < instr.length
  pub ends : pc + instr.length ≤ length code
  pub table_switch : (row_of instr.op).form ≡ TableSwitch → instr.table + 4 * instr.count ≡ pc + instr.length
  pub lookup_switch : (row_of instr.op).form ≡ LookupSwitch → instr.table + 8 * instr.count ≡ pc + instr.length

-- the codes have the same bytes from one place up to another
abbrev pub SameBytes : (from to : ℕ) → (code other : List ℕ) → Type 0
SameBytes from to code other = (place : ℕ) → from ≤ place → place < to → u1 other place ≡ u1 code place

-- the other code has the same instruction at pc, with the same cases
pub record IsSameInstruction (code other : List ℕ) (pc : ℕ) (instr : Instr) : Type 0 where
  pub is : decoded other pc ≡ Ok instr
  pub cases : cases_of other instr ≡ cases_of code instr

-- a whole instruction depends on its own bytes alone
abbrev pub IsLocal : (code other : List ℕ) (pc : ℕ) (instr : Instr) → Type 0
IsLocal code other pc instr =
    decoded code pc ≡ Ok instr → pc + instr.length ≤ length other → SameBytes pc (pc + instr.length) code other → IsSameInstruction code other pc instr

abbrev pub WholeIsWithin : List ℕ → ℕ → Type 0
WholeIsWithin code pc = (instr : Instr) → decoded code pc ≡ Ok instr → EndsWithin code pc instr
