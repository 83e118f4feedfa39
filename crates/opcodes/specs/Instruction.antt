-- The instruction at a place of a code: JVM Specification SE 8, 6.5.
use Rattle.std.specs.Prelude.{ℕ, ◌+◌, ◌-◌, ◌*◌, ◌/◌, Bool, true, false, List, length, nat_lt, nat_le, if◌then◌else◌, ℤ, pos, negsuc, ◌-ℤ◌, int_lt, unsigned_abs}
use Rattle.std.specs.Prelude.{Result, Ok, Err}
use Rattle.opcodes.specs.declared.instruction.Instr.{Instr}
use Rattle.opcodes.specs.declared.instruction.DecodeFault.{DecodeFault}
use Rattle.opcodes.specs.declared.instruction.DecodeFault.TheVariants.{NoOpcode, Short}
use Rattle.opcodes.specs.Bytes.{u1, u2, s1, s2, s4}
use Rattle.opcodes.specs.Form.{FixedOperand, Absent, UnsignedByte, UnsignedShort, SignedByte, SignedShort, Offset, WideOffset, Operands, Form, NotAnOpcode}
use Rattle.opcodes.specs.Form.{Fixed}
use Rattle.opcodes.specs.Form.{Widened, TableSwitch, LookupSwitch, Wide}
use Rattle.opcodes.specs.Row.{row_of}

-- how many bytes an operand takes
abbrev pub width : FixedOperand → ℕ
width Absent = 0
width UnsignedByte = 1
width UnsignedShort = 2
width SignedByte = 1
width SignedShort = 2
width Offset = 2
width WideOffset = 4

-- the number of an operand at a place; one that is absent has 0
abbrev pub value_at : List ℕ → ℕ → FixedOperand → ℤ
value_at code place Absent = pos 0
value_at code place UnsignedByte = pos (u1 code place)
value_at code place UnsignedShort = pos (u2 code place)
value_at code place SignedByte = s1 code place
value_at code place SignedShort = s2 code place
value_at code place Offset = s2 code place
value_at code place WideOffset = s4 code place

-- how many bytes the operands take
abbrev pub operands_width : Operands → ℕ
operands_width o = width o.first + width o.second + o.unused

-- how many bytes stand before the opcode
abbrev pub prefix_width : Bool → ℕ
prefix_width wide = if wide then 1 else 0

-- the instruction at pc with operands of fixed width behind its opcode, which stands behind `wide` or at pc
abbrev pub fixed_at : List ℕ → ℕ → Bool → Operands → Instr
fixed_at code pc wide o =
    let place = pc + prefix_width wide in
    record {
      op = u1 code place;
      wide = wide;
      length = prefix_width wide + 1 + operands_width o;
      first = value_at code (place + 1) o.first;
      second = value_at code (place + 1 + width o.first) o.second;
      count = 0;
      table = 0;
    }

-- the place of a switch's default offset: the first multiple of four behind the opcode, counted from the start of the code
abbrev pub default_place : ℕ → ℕ
default_place pc = (pc + 4) / 4 * 4

-- how many values there are from low to high
abbrev pub values_between : ℤ → ℤ → ℕ
values_between low high = if int_lt high low then 0 else unsigned_abs (high -ℤ low) + 1

-- a number of pairs; a negative one counts as none
abbrev pub pair_count : ℤ → ℕ
pair_count (pos n) = n
pair_count (negsuc n) = 0

abbrev pub table_switch_at : List ℕ → ℕ → Instr
table_switch_at code pc =
    let place = default_place pc in
    let low = s4 code (place + 4) in
    let count = values_between low (s4 code (place + 8)) in
    record {
      op = u1 code pc;
      wide = false;
      length = place + 12 + 4 * count - pc;
      first = s4 code place;
      second = low;
      count = count;
      table = place + 12;
    }

abbrev pub lookup_switch_at : List ℕ → ℕ → Instr
lookup_switch_at code pc =
    let place = default_place pc in
    let pairs = s4 code (place + 4) in
    let count = pair_count pairs in
    record {
      op = u1 code pc;
      wide = false;
      length = place + 8 + 8 * count - pc;
      first = s4 code place;
      second = pairs;
      count = count;
      table = place + 8;
    }

-- the instruction at pc behind `wide`, by the form of the opcode there
abbrev pub widened_at : List ℕ → ℕ → Form → Result Instr DecodeFault
widened_at code pc (Widened plain widened) = Ok (fixed_at code pc true widened)
widened_at code pc _ = Err (NoOpcode (u1 code (pc + 1)))

-- the instruction that begins at pc, by the form of the opcode there
abbrev pub spelled_at : List ℕ → ℕ → Form → Result Instr DecodeFault
spelled_at code pc NotAnOpcode = Err (NoOpcode (u1 code pc))
spelled_at code pc (Fixed plain) = Ok (fixed_at code pc false plain)
spelled_at code pc (Widened plain widened) = Ok (fixed_at code pc false plain)
spelled_at code pc TableSwitch = Ok (table_switch_at code pc)
spelled_at code pc LookupSwitch = Ok (lookup_switch_at code pc)
spelled_at code pc Wide =
    if nat_lt (pc + 1) (length code) then widened_at code pc (row_of (u1 code (pc + 1))).form else Err Short

-- an instruction of which some bytes lie past the end is none
abbrev pub within : List ℕ → ℕ → Result Instr DecodeFault → Result Instr DecodeFault
within code pc (Ok instr) = if nat_le (pc + instr.length) (length code) then Ok instr else Err Short
within code pc (Err fault) = Err fault

-- the instruction at pc
unfoldable pub decoded : List ℕ → ℕ → Result Instr DecodeFault
decoded code pc = within code pc (spelled_at code pc (row_of (u1 code pc)).form)
