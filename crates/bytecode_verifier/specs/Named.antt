-- Frames by the names of classes, as frames of types: JVM Specification SE 8, 4.4.1, 4.7.4 and 4.10.1.2.
use Rattle.std.specs.Prelude.{ℕ, List, map, reverse}
use Rattle.bytecode_model.specs.Lists.{onto}
use Rattle.class_pool.specs.declared.class.ClassFile.{ClassFile}
use Rattle.frame_types.specs.declared.types.VarType.{VarType}
use Rattle.frame_types.specs.declared.types.VarType.TheVariants.{Top, Integer, Null, UninitializedThis, Object, Uninitialized, Long}
use Rattle.frame_types.specs.declared.types.TypeFrame.{TypeFrame}
use Rattle.program_tables.specs.Kinds.{type_named, kind_of_type}
use Rattle.bytecode_typing.specs.Types as typing
use Rattle.bytecode_typing.specs.Checks.{reference_or_top}

-- of what no class is found for, nothing is known
abbrev pub type_by : List ClassFile → VarType → typing.VarType
type_by cs Top = typing.Top
type_by cs Integer = typing.Integer
type_by cs Null = typing.NullReference
type_by cs UninitializedThis = typing.UninitializedThis
type_by cs (Object name) = reference_or_top (onto (type_named name) (kind_of_type cs))
type_by cs (Uninitialized place) = typing.Uninitialized place
type_by cs Long = typing.LongInteger

-- an operand stack stands there from its bottom to its top
abbrev pub frame_by : List ClassFile → TypeFrame → typing.TypeFrame
frame_by cs f = record { locals = map (type_by cs) f.locals; stack = map (type_by cs) (reverse f.stack); flag = f.flag }

abbrev pub frames_by : List ClassFile → List (ℕ × TypeFrame) → List (ℕ × typing.TypeFrame)
frames_by cs fs = map (λ x. (x.0, frame_by cs x.1)) fs
