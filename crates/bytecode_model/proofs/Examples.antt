-- The worked examples, by computing.
use Rattle.std.proofs.Common.{refl}
use Rattle.std.specs.Int.{int_wrap}
use Rattle.opcodes.specs.Instruction.{decoded}
use Rattle.opcodes.specs.Row as opcodes
use Rattle.bytecode_model.specs.Table.{row_of}
use Rattle.bytecode_model.specs.Steps.{run_from}
use Rattle.bytecode_model.specs.Examples.{Arithmetic, StackForms, LocalVariables, Arrays, Heap, Casts, InterfaceCalls, Handlers, Frames, Rest, WorkedExamples}

arithmetic : Arithmetic
unfolding decoded opcodes.row_of row_of run_from int_wrap
arithmetic = record {
  quotient_wraps = refl;
  remainder_of_min = refl;
  towards_zero = refl;
  sign_of_dividend = refl;
  zero_divisor = refl;
  zero_divisor_of_remainder = refl;
  difference = refl;
  long_sum = refl;
  long_difference = refl;
  long_negated = refl;
  less = refl;
  equal = refl;
  greater = refl;
  shift_left = refl;
  shift_right = refl;
  shift_right_unsigned = refl;
  long_shift_left = refl;
  long_shift_right_unsigned = refl;
  byte = refl;
  char = refl;
  char_of_more_bits = refl;
  short = refl;
  int = refl;
}

stack_forms : StackForms
unfolding decoded opcodes.row_of row_of run_from int_wrap
stack_forms = record {
  pop = refl;
  pop_of_long = refl;
  pop2 = refl;
  pop2_of_long = refl;
  pop2_of_half = refl;
  dup = refl;
  dup_of_long = refl;
  dup_x1 = refl;
  dup_x2 = refl;
  dup_x2_over_long = refl;
  dup2 = refl;
  dup2_of_long = refl;
  dup2_x1 = refl;
  dup2_x1_of_long = refl;
  dup2_x2 = refl;
  dup2_x2_of_long = refl;
  dup2_x2_over_long = refl;
  dup2_x2_of_longs = refl;
  swap = refl;
  swap_of_long = refl;
}

local_variables : LocalVariables
unfolding decoded opcodes.row_of row_of run_from int_wrap
local_variables = record {
  first_half = refl;
  second_half = refl;
  long_over_int = refl;
  long_over_first_half = refl;
  long_over_second_half = refl;
  past_the_end = refl;
  other_type = refl;
}

arrays : Arrays
unfolding decoded opcodes.row_of row_of run_from int_wrap
arrays = record {
  wrong_component = refl;
  array_stays = refl;
  component = refl;
  null = refl;
  past_the_end = refl;
  negative_index = refl;
  no_array = refl;
  eight_bits = refl;
  sign = refl;
  sixteen_bits = refl;
}

heap : Heap
unfolding decoded opcodes.row_of row_of run_from int_wrap
heap = record {
  fits = refl;
  reference = refl;
  refused = refl;
  negative = refl;
}

casts : Casts
unfolding decoded opcodes.row_of row_of run_from int_wrap
casts = record {
  cast_of_null = refl;
  cast = refl;
  wrong_cast = refl;
  test_of_null = refl;
  test = refl;
  array = refl;
  throw_of_null = refl;
}

interface_calls : InterfaceCalls
unfolding decoded opcodes.row_of row_of run_from int_wrap
interface_calls = record {
  without = refl;
  with = refl;
  selected = refl;
  of_null = refl;
}

handlers : Handlers
unfolding decoded opcodes.row_of row_of run_from int_wrap
handlers = record {
  first_that_fits = refl;
  superclass = refl;
  object_alone = refl;
  none = refl;
}

frames : Frames
unfolding decoded opcodes.row_of row_of run_from int_wrap
frames = record {
  fit = refl;
  go_on = refl;
  one_more = refl;
  as_deep = refl;
  earlier = refl;
}

rest : Rest
unfolding decoded opcodes.row_of row_of run_from int_wrap
rest = record {
  byte = refl;
  end = refl;
  output = refl;
  output_of_more_bits = refl;
  before_the_code = refl;
  negative_pairs = refl;
  boot_returns = refl;
  long_static = refl;
  int_into_long_static = refl;
  wide_store = refl;
  wide_increment = refl;
}

pub worked : WorkedExamples
worked = record {
  arithmetic = arithmetic;
  stack = stack_forms;
  locals = local_variables;
  arrays = arrays;
  heap = heap;
  casts = casts;
  interface_calls = interface_calls;
  handlers = handlers;
  frames = frames;
  rest = rest;
}
