-- How the operands of an instruction lie behind its opcode: the formats of JVM Specification SE 8, 6.5.
use Rattle.std.specs.Prelude.{ℕ}

-- an operand of fixed width; the numbers have their high byte first
pub data FixedOperand : Type 0 where
  -- none
  Absent : FixedOperand
  -- one byte: the index of a local variable or of a pool entry, an array code, a count
  UnsignedByte : FixedOperand
  -- two bytes: the index of a local variable or of a pool entry
  UnsignedShort : FixedOperand
  -- one byte, signed: a constant
  SignedByte : FixedOperand
  -- two bytes, signed: a constant
  SignedShort : FixedOperand
  -- two bytes, signed: the branch offset from the opcode's place
  Offset : FixedOperand
  -- four bytes, signed: the branch offset from the opcode's place
  WideOffset : FixedOperand

-- the operands in order, and how many bytes without a number follow them
pub record Operands : Type 0 where
  pub first : FixedOperand
  pub second : FixedOperand
  pub unused : ℕ

pub data Form : Type 0 where
  -- the byte is no opcode
  NotAnOpcode : Form
  -- operands of fixed width
  Fixed : Operands → Form
  -- the same, with the operands of the opcode's form behind `wide`
  Widened : Operands → Operands → Form
  -- padding, the default offset, the low and the high value, and an offset for each value
  TableSwitch : Form
  -- padding, the default offset, the number of pairs, and the pairs of a key and an offset
  LookupSwitch : Form
  -- another opcode with wider operands
  Wide : Form

abbrev pub one : FixedOperand → Operands
one operand = record { first = operand; second = Absent; unused = 0 }

abbrev pub two : FixedOperand → FixedOperand → Operands
two first second = record { first = first; second = second; unused = 0 }

abbrev pub nothing : Form
nothing = Fixed (one Absent)

abbrev pub unsigned_byte : Form
unsigned_byte = Fixed (one UnsignedByte)

abbrev pub unsigned_short : Form
unsigned_short = Fixed (one UnsignedShort)

abbrev pub signed_byte : Form
signed_byte = Fixed (one SignedByte)

abbrev pub signed_short : Form
signed_short = Fixed (one SignedShort)

abbrev pub branch : Form
branch = Fixed (one Offset)

abbrev pub wide_branch : Form
wide_branch = Fixed (one WideOffset)

-- the index of a local variable: a load, a store or `ret`
abbrev pub local : Form
local = Widened (one UnsignedByte) (one UnsignedShort)

-- `iinc`: the index of a local variable and a constant
abbrev pub increment : Form
increment = Widened (two UnsignedByte SignedByte) (two UnsignedShort SignedShort)

-- `multianewarray`: the index of a pool entry and the number of dimensions
abbrev pub dimensions : Form
dimensions = Fixed (two UnsignedShort UnsignedByte)

-- `invokeinterface`: the index of a pool entry, the number of argument words, and a byte that is zero
abbrev pub interface_call : Form
interface_call = Fixed (record { first = UnsignedShort; second = UnsignedByte; unused = 1 })

-- `invokedynamic`: the index of a pool entry, and two bytes that are zero
abbrev pub dynamic_call : Form
dynamic_call = Fixed (record { first = UnsignedShort; second = Absent; unused = 2 })
