-- How many words values, objects and frames take.
use Rattle.std.specs.Prelude.{ℕ, ◌+◌, List, length, drop, sum_by, Option, Some, None, if◌then◌else◌}
use Rattle.bytecode_model.specs.declared.Value.{Value}
use Rattle.bytecode_model.specs.Types.{Kind, OfClass, is_long}
use Rattle.bytecode_model.specs.State.{Object, Frame, State}
use Rattle.bytecode_model.specs.Program.{Program, Body, body_of, kind_of}

abbrev pub value_words : Value → ℕ
value_words v = if is_long v then 2 else 1

-- a word for the type, and for an array one more for its length
abbrev pub header_words : Option Kind → ℕ
header_words (Some (OfClass c)) = 1
header_words k = 2

abbrev pub object_words : Program → Object → ℕ
object_words P o = header_words (kind_of P o) + sum_by value_words o.parts

-- the words of the objects made since the start
abbrev pub made_words : Program → State → ℕ
made_words P s = sum_by (object_words P) (drop (length P.first_objects) s.objects)

-- the local variables, five saved words, and the greatest depth of the operand stack
abbrev pub body_words : Body → ℕ
body_words b = b.max_locals + 5 + b.max_stack

abbrev pub frame_words : Program → Frame → ℕ
frame_words P f = elim (body_of P f.method) [ None ↦ 0 | Some b ↦ body_words b ]

abbrev pub frames_words : Program → List Frame → ℕ
frames_words P fs = sum_by (frame_words P) fs
