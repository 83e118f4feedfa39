-- The worked examples compute.
use Rattle.std.proofs.Common.{refl}
use Rattle.opcodes.specs.Instruction.{decoded}
use Rattle.opcodes.specs.Start.{starts_of}
use Rattle.opcodes.specs.Row.{row_of}
use Rattle.bytecode_model.specs.Table.{row_of as meaning_of}
use Rattle.bytecode_typing.specs.Examples.{RulesFailFirst}

pub worked_out : RulesFailFirst
unfolding decoded starts_of row_of meaning_of
worked_out = record {
  flow = refl;
  past_the_end = refl;
  merge = refl;
  operand = refl;
  stack = refl;
  depth = refl;
  access = refl;
  own_class = refl;
  init = refl;
  target = refl;
  jump = refl;
  before_the_code = refl;
  handler = refl;
}
