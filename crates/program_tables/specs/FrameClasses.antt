-- The classes that a StackMapTable names: JVM Specification SE 8, 4.7.4.
use Rattle.std.specs.Prelude.{ℕ, zero, suc, ◌-◌, ◌||◌, ◌==◌, nat_lt, if◌then◌else◌, List, [], ◌∷◌, ◌++◌, length, Option, Some, None}
use Rattle.std.specs.Option.{option_map_or}
use Rattle.std.specs.List.{list_all}
use Rattle.class_pool.specs.declared.entry.Entry.{Entry}
use Rattle.class_pool.specs.Grammar.{entry_at, is_class}
use Rattle.class_pool.specs.Reading.{number_in}
use Rattle.bytecode_model.specs.Lists.{onto}
use Rattle.class_pool.specs.declared.class.Code.{Code}
use Rattle.class_pool.specs.Found.{stack_map_of}

-- Of each part: the indexes of the classes that it names, and the bytes behind it; nothing where the bytes are no such part.
abbrev pub FramePart : Type 0
FramePart = List ℕ → Option (List ℕ × List ℕ)

-- so many parts in a row
unfoldable pub many : FramePart → ℕ → FramePart
many part zero bytes = Some ([], bytes)
many part (suc n) bytes = onto (part bytes) (λ first. onto (many part n first.1) (λ others. Some (first.0 ++ others.0, others.1)))

-- a number, and so many parts
abbrev pub counted : FramePart → FramePart
counted part bytes = onto (number_in 2 bytes) (λ n. many part n.0 n.1)

-- a verification type: Top, Integer, Long, Null and UninitializedThis are a tag alone; Object has a class, Uninitialized a place; float and double
-- aren't supported
unfoldable pub type_in : FramePart
type_in [] = None
type_in (tag ∷ bytes) =
    if nat_lt tag 2 || tag == 4 || tag == 5 || tag == 6 then Some ([], bytes)
    else if tag == 7 then onto (number_in 2 bytes) (λ class. Some (class.0 ∷ [], class.1))
    else if tag == 8 then onto (number_in 2 bytes) (λ place. Some ([], place.1))
    else None

-- what stands behind a number of two bytes
abbrev pub behind_delta : FramePart → FramePart
behind_delta part bytes = onto (number_in 2 bytes) (λ delta. part delta.1)

-- all local variables, then the whole stack
abbrev pub full_in : FramePart
full_in bytes = onto (counted type_in bytes) (λ locals. onto (counted type_in locals.1) (λ stack. Some (locals.0 ++ stack.0, stack.1)))

-- a frame: same_frame, same_locals_1_stack_item_frame and its extended form, chop_frame and same_frame_extended, append_frame, full_frame
unfoldable pub frame_in : FramePart
frame_in [] = None
frame_in (tag ∷ bytes) =
    if nat_lt tag 64 then Some ([], bytes)
    else if nat_lt tag 128 then type_in bytes
    else if nat_lt tag 247 then None
    else if nat_lt tag 248 then behind_delta type_in bytes
    else if nat_lt tag 252 then behind_delta (λ rest. Some ([], rest)) bytes
    else if nat_lt tag 255 then behind_delta (many type_in (tag - 251)) bytes
    else behind_delta full_in bytes

-- the classes, where nothing is left and each index is that of a Class entry
abbrev pub whole_table : List Entry → List ℕ × List ℕ → List ℕ
whole_table pool x = if length x.1 == 0 then (if list_all (λ index. is_class (entry_at pool index)) x.0 then x.0 else []) else []

-- the indexes of the classes that the frames name, in order; none where the bytes aren't a number and just so many frames
unfoldable pub frame_classes : List Entry → List ℕ → List ℕ
frame_classes pool bytes = option_map_or (whole_table pool) (counted frame_in bytes) []

abbrev pub classes_in_frames : List Entry → Code → List ℕ
classes_in_frames pool k = option_map_or (frame_classes pool) (stack_map_of pool k) []
