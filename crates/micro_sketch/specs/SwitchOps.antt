-- Switches (JVM Specification SE 8, 6.5 tableswitch and lookupswitch): the operands begin at the next multiple of 4 from the code's start, each four bytes.
use Rattle.std.specs.Prelude.{ℕ, ◌+◌, ◌-◌, ◌*◌, ◌/◌, ◌%◌, ◌^◌, ◌<◌, ◌≤◌, ◌==◌, ◌||◌, zero, suc, ◌∷◌, if◌then◌else◌}
use Rattle.microcode.specs.declared.addresses.TheConstants.{LOOKUP_HIT}
use Rattle.jop_core.specs.Operations.{signed_lt}
use Rattle.micro_sketch.specs.Sketch.{Sketch}
use Rattle.micro_sketch.specs.Row.{Effect, unchanged}
use Rattle.micro_sketch.specs.Operand.{past, four_byte_operand}

-- x at another place of the code
abbrev pub placed : (place : ℕ) → Sketch → Sketch
placed place x = record x { jpc = place }

-- where the operands begin: behind the padding
abbrev pub operands : Sketch → Sketch
operands x = placed ((x.jpc + 3) / 4 * 4 % 2 ^ 16) x

-- the offset that is taken where no case is
abbrev pub default_offset : Sketch → ℕ
default_offset x = four_byte_operand (operands x)

-- the least and the greatest key of a tableswitch
abbrev pub least : Sketch → ℕ
least x = four_byte_operand (past 4 (operands x))

abbrev pub greatest : Sketch → ℕ
greatest x = four_byte_operand (past 8 (operands x))

-- the offset of a key among them, which lies so far behind the first
abbrev pub table_offset : Sketch → (key : ℕ) → ℕ
table_offset x key = let begin = past 12 (operands x) in four_byte_operand (placed ((begin.jpc + 4 * ((key + (2 ^ 32 - least x)) % 2 ^ 32)) % 2 ^ 16) begin)

-- the offset that a key takes
abbrev pub chosen_offset : Sketch → (key : ℕ) → ℕ
chosen_offset x key = if signed_lt key (least x) || signed_lt (greatest x) key then default_offset x else table_offset x key

-- a jump by an offset from the instruction's own place
abbrev pub jumps_by : (offset : ℕ) → Sketch → Effect
jumps_by offset x = record (unchanged x) { words = x.next ∷ x.under; jpc = (x.jpc + (2 ^ 16 - 1) + offset) % 2 ^ 16 }

abbrev pub tableswitch_effect : Sketch → Effect
tableswitch_effect x = jumps_by (chosen_offset x x.top) x

-- the place of the next byte is one of the code
abbrev pub IsInCode : Sketch → Type 0
IsInCode x = x.jpc < 2 ^ 16

-- A lookupswitch has the number of its pairs, then the pairs, each a key and an offset.
abbrev pub pairs : Sketch → ℕ
pairs x = four_byte_operand (past 4 (operands x))

-- the offset of a key among so many pairs, the first of which is at y, or the other one
abbrev pub offset_among : (count : ℕ) → (y : Sketch) → (key other : ℕ) → ℕ
offset_among zero y key other = other
offset_among (suc count) y key other = if four_byte_operand y == key then four_byte_operand (past 4 y) else offset_among count (past 8 y) key other

abbrev pub lookupswitch_effect : Sketch → Effect
lookupswitch_effect x = jumps_by (offset_among (pairs x) (past 8 (operands x)) x.top (default_offset x)) x

-- the branch of its loop may be taken once for each pair
pub record CanSearch (x : Sketch) : Type 0 where
  pub inside : IsInCode x
  pub turns : pairs x ≤ x.left (LOOKUP_HIT - 1)

pub data SwitchOp : Type 0 where
  Tableswitch : SwitchOp
  Lookupswitch : SwitchOp

abbrev pub switch_code : SwitchOp → ℕ
switch_code Tableswitch = 170
switch_code Lookupswitch = 171

abbrev pub switch_effect : SwitchOp → Sketch → Effect
switch_effect Tableswitch x = tableswitch_effect x
switch_effect Lookupswitch x = lookupswitch_effect x

-- what an opcode needs beyond room on the stack
abbrev pub switch_ready : SwitchOp → Sketch → Type 0
switch_ready Tableswitch x = IsInCode x
switch_ready Lookupswitch x = CanSearch x
