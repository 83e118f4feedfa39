-- A StackMapTable as it is read: JVM Specification SE 8, 4.7.4. Of each part what was read and the bytes behind it, or nothing where the bytes are no
-- such part.
use Rattle.std.specs.Prelude.{ℕ, ◌-◌, ◌==◌, nat_lt, if◌then◌else◌, List, [], Option, Some, None}
use Rattle.base.specs.Reading.{◌>>=◌, whole}
use Rattle.class_pool.specs.declared.entry.Entry.{Entry}
use Rattle.class_pool.specs.declared.class.Code.{Code}
use Rattle.class_pool.specs.Grammar.{entry_at, class_name_of, text_at}
use Rattle.class_pool.specs.Found.{stack_map_of}
use Rattle.class_pool.specs.Reading.{number_in, byte_in}
use Rattle.class_file.specs.InsideReading.{many_in, counted_in}
use Rattle.frame_types.specs.declared.types.VarType.{VarType}
use Rattle.frame_types.specs.declared.types.VarType.TheVariants.{Top, Integer, Null, UninitializedThis, Object, Uninitialized, Long}
use Rattle.frame_types.specs.declared.read.Change.{Change}
use Rattle.frame_types.specs.declared.read.Change.TheVariants.{Same, OneItem, Chop, Append, Full}
use Rattle.frame_types.specs.declared.read.MapEntry.{MapEntry}

-- ---- verification_type_info

-- an Object has the index of a Class entry, which names it
unfoldable pub object_in : (pool : List Entry) → List ℕ → Option (VarType × List ℕ)
object_in pool bytes = do
  index ← number_in 2 bytes
  name ← class_name_of (entry_at pool index.0)
  Some (Object (text_at pool name), index.1)

unfoldable pub uninitialized_in : List ℕ → Option (VarType × List ℕ)
uninitialized_in bytes = do
  place ← number_in 2 bytes
  Some (Uninitialized place.0, place.1)

-- what stands behind a tag; float (2) and double (3) aren't supported
unfoldable pub tagged_in : (pool : List Entry) → (tag : ℕ) → List ℕ → Option (VarType × List ℕ)
tagged_in pool tag bytes =
    if tag == 0 then Some (Top, bytes)
    else if tag == 1 then Some (Integer, bytes)
    else if tag == 4 then Some (Long, bytes)
    else if tag == 5 then Some (Null, bytes)
    else if tag == 6 then Some (UninitializedThis, bytes)
    else if tag == 7 then object_in pool bytes
    else if tag == 8 then uninitialized_in bytes
    else None

unfoldable pub type_in : (pool : List Entry) → List ℕ → Option (VarType × List ℕ)
type_in pool bytes = do
  tag ← byte_in bytes
  tagged_in pool tag.0 tag.1

-- ---- stack_map_frame: what it changes

-- same_locals_1_stack_item_frame: one item on the operand stack
unfoldable pub one_item_in : (pool : List Entry) → List ℕ → Option (Change × List ℕ)
one_item_in pool bytes = do
  item ← type_in pool bytes
  Some (OneItem item.0, item.1)

-- append_frame: so many more local variables
unfoldable pub append_in : (pool : List Entry) → (n : ℕ) → List ℕ → Option (Change × List ℕ)
append_in pool n bytes = do
  locals ← many_in (type_in pool) n bytes
  Some (Append locals.0, locals.1)

-- full_frame: all local variables, and the operand stack from its bottom to its top
unfoldable pub full_in : (pool : List Entry) → List ℕ → Option (Change × List ℕ)
full_in pool bytes = do
  locals ← counted_in (type_in pool) bytes
  stack ← counted_in (type_in pool) locals.1
  Some (Full locals.0 stack.0, stack.1)

-- behind the offset of a frame that has one of two bytes: same_locals_1_stack_item_frame_extended, chop_frame, same_frame_extended, append_frame, full_frame
unfoldable pub change_in : (pool : List Entry) → (tag : ℕ) → List ℕ → Option (Change × List ℕ)
change_in pool tag bytes =
    if tag == 247 then one_item_in pool bytes
    else if nat_lt tag 251 then Some (Chop (251 - tag), bytes)
    else if tag == 251 then Some (Same, bytes)
    else if nat_lt tag 255 then append_in pool (tag - 251) bytes
    else full_in pool bytes

abbrev pub with_offset : (offset : ℕ) → Option (Change × List ℕ) → Option (MapEntry × List ℕ)
with_offset offset read = read >>= λ x. Some (record { offset = offset; change = x.0 }, x.1)

-- behind the tag: same_frame and same_locals_1_stack_item_frame have their offset in it; 128 to 246 are reserved
unfoldable pub frame_in : (pool : List Entry) → (tag : ℕ) → List ℕ → Option (MapEntry × List ℕ)
frame_in pool tag bytes =
    if nat_lt tag 64 then with_offset tag (Some (Same, bytes))
    else if nat_lt tag 128 then with_offset (tag - 64) (one_item_in pool bytes)
    else if nat_lt tag 247 then None
    else (number_in 2 bytes >>= λ offset. with_offset offset.0 (change_in pool tag offset.1))

unfoldable pub map_entry_in : (pool : List Entry) → List ℕ → Option (MapEntry × List ℕ)
map_entry_in pool bytes = do
  tag ← byte_in bytes
  frame_in pool tag.0 tag.1

-- all of the bytes as a number of frames and the frames
unfoldable pub table_in : (pool : List Entry) → List ℕ → Option (List MapEntry)
table_in pool bytes = do
  found ← counted_in (map_entry_in pool) bytes
  whole found

abbrev pub table_or_none : (pool : List Entry) → Option (List ℕ) → Option (List MapEntry)
table_or_none pool None = Some []
table_or_none pool (Some bytes) = table_in pool bytes

-- the frames of a code's StackMapTable; a code without one has none
abbrev pub entries_of : (pool : List Entry) → Code → Option (List MapEntry)
entries_of pool code = table_or_none pool (stack_map_of pool code)
