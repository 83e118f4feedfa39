-- What the code's tables say of an opcode.
use Rattle.std.specs.Prelude.{ℕ, ◌+◌}
use Rattle.opcodes.specs.declared.table.FixedOperand.{FixedOperand as OperandCode}
use Rattle.opcodes.specs.declared.table.FixedOperand.TheVariants as code
use Rattle.opcodes.specs.declared.table.Operands.{Operands as OperandsCode}
use Rattle.opcodes.specs.declared.table.Form.{Form as FormCode}
use Rattle.opcodes.specs.declared.table.Form.TheVariants as forms
use Rattle.opcodes.specs.declared.table.Entry.{Entry}
use Rattle.opcodes.specs.Form.{FixedOperand, Absent, UnsignedByte, UnsignedShort, SignedByte, SignedShort, Offset, WideOffset, Operands, Form, NotAnOpcode}
use Rattle.opcodes.specs.Form.{Fixed}
use Rattle.opcodes.specs.Form.{Widened, TableSwitch, LookupSwitch, Wide}
use Rattle.opcodes.specs.Instruction.{operands_width}
use Rattle.opcodes.specs.Row.{OpcodeRow}

abbrev pub entry_operand : OperandCode → FixedOperand
entry_operand code.Absent = Absent
entry_operand code.UnsignedByte = UnsignedByte
entry_operand code.UnsignedShort = UnsignedShort
entry_operand code.SignedByte = SignedByte
entry_operand code.SignedShort = SignedShort
entry_operand code.Offset = Offset
entry_operand code.WideOffset = WideOffset

abbrev pub entry_operands : OperandsCode → Operands
entry_operands o = record { first = entry_operand o.first; second = entry_operand o.second; unused = o.unused }

abbrev pub entry_form : FormCode → Form
entry_form forms.NotAnOpcode = NotAnOpcode
entry_form (forms.Fixed operands) = Fixed (entry_operands operands)
entry_form (forms.Widened operands widened) = Widened (entry_operands operands) (entry_operands widened)
entry_form forms.TableSwitch = TableSwitch
entry_form forms.LookupSwitch = LookupSwitch
entry_form forms.Wide = Wide

abbrev pub parts_of : Entry → OpcodeRow
parts_of e = record { number = e.opcode; mnemonic = e.name.now; form = entry_form e.form; kind = e.kind; raises = e.raises; supported = e.supported }

-- the row that an entry stands for; it is opaque, so that a goal on an entry stays short
unfoldable pub entry_row : Entry → OpcodeRow
entry_row e = parts_of e

-- how many bytes the instructions of a form have, and 0 where they differ
abbrev pub length_by : Form → ℕ
length_by (Fixed plain) = 1 + operands_width plain
length_by (Widened plain widened) = 1 + operands_width plain
length_by _ = 0
