-- The worked frames, computed.
use Rattle.std.proofs.Common.{refl}
use Rattle.opcodes.specs.Row.{row_of}
use Rattle.opcodes.specs.Start.{starts_of}
use Rattle.opcodes.specs.Instruction.{decoded}
use Rattle.class_file.specs.InsideReading.{many_in, counted_in}
use Rattle.descriptors.specs.Parsing.{primitive_in, split_in, class_in, element_in, type_from, types_in, field_in, result_in, method_in}
use Rattle.frame_types.specs.Table.{object_in, uninitialized_in, tagged_in, type_in, one_item_in, append_in, full_in, change_in, frame_in, map_entry_in, table_in}
use Rattle.frame_types.specs.Locals.{first_locals}
use Rattle.frame_types.specs.Frames.{frames_of}
use Rattle.frame_types.specs.Examples.{WorkedFrames}

pub worked : WorkedFrames
unfolding row_of starts_of decoded many_in counted_in primitive_in split_in class_in element_in type_from types_in field_in result_in method_in object_in uninitialized_in tagged_in type_in one_item_in append_in full_in change_in frame_in map_entry_in table_in first_locals frames_of
worked = record {
  none = refl;
  same = refl;
  two = refl;
  behind_switch = refl;
  chop = refl;
  chop_absent = refl;
  append = refl;
  append_too_many = refl;
  full = refl;
  full_too_deep = refl;
  made = refl;
  not_made = refl;
  init = refl;
  no_start = refl;
  earlier = refl;
  too_long = refl;
  reserved = refl;
  float = refl;
  no_class = refl;
  first_too_long = refl;
}
