-- Which type may stand for which: JVM Specification SE 8, 4.10.1.2 and 4.10.1.4.
use Rattle.std.specs.Prelude.{◌==◌, Bool, true, false, ◌&&◌, ◌||◌, Option, Some, None}
use Rattle.bytecode_model.specs.Types.{Kind, OfClass, OfReferences}
use Rattle.bytecode_model.specs.Program.{Program, is_of}
use Rattle.bytecode_typing.specs.Tests.{all_two}
use Rattle.bytecode_typing.specs.Types.{VarType, Top, Integer, LongInteger, NullReference, UninitializedThis, Uninitialized, ReferenceTo, TypeFrame}
use Rattle.bytecode_typing.specs.Types.{is_long_type}
use Rattle.bytecode_model.specs.Effects.{same_bool}

-- The verifier takes every class for an interface (4.10.1.2: an interface is treated like Object); of arrays it asks for a true supertype.
-- What runs asks `is_of` instead.
abbrev pub is_assignable_kind : Program → Kind → Kind → Bool
is_assignable_kind P (OfClass c) (OfClass d) = P.is_interface d || P.extends c d
is_assignable_kind P (OfReferences k) (OfReferences l) = is_assignable_kind P k l
is_assignable_kind P k l = is_of P k l

-- for a local variable (isAssignable)
abbrev pub is_assignable : Program → VarType → VarType → Bool
is_assignable P t Top = true
is_assignable P Integer Integer = true
is_assignable P LongInteger LongInteger = true
is_assignable P NullReference NullReference = true
is_assignable P NullReference (ReferenceTo k) = true
is_assignable P (ReferenceTo k) (ReferenceTo l) = is_assignable_kind P k l
is_assignable P UninitializedThis UninitializedThis = true
is_assignable P (Uninitialized p) (Uninitialized q) = p == q
is_assignable P t u = false

-- for an item of the operand stack, which keeps its words
abbrev pub is_assignable_item : Program → VarType → VarType → Bool
is_assignable_item P t u = is_assignable P t u && same_bool (is_long_type t) (is_long_type u)

-- only a frame with the flag is reached from one with the flag
abbrev pub keeps_flag : (first second : Bool) → Bool
keeps_flag true second = second
keeps_flag false second = true

-- frames (frameIsAssignable): item by item, and the flag isn't set in the first alone
abbrev pub is_assignable_frame : Program → TypeFrame → TypeFrame → Bool
is_assignable_frame P f g =
    all_two (is_assignable P) f.locals g.locals && all_two (is_assignable_item P) f.stack g.stack && keeps_flag f.flag g.flag

-- control may go on with the frame where this one stands, if one does
abbrev pub flows_to : Program → TypeFrame → Option TypeFrame → Bool
flows_to P f None = false
flows_to P f (Some g) = is_assignable_frame P f g
