-- What is told of the instruction at a place.
use Rattle.std.specs.Prelude.{ℕ, ℤ, Some, None}
use Rattle.std.specs.declared.option.Option.{Option}
use Rattle.bytecode_model.specs.Program.{Program}
use Rattle.bytecode_model.specs.Rows.{Row}
use Rattle.code_lines.specs.Lines.{IsLine}
use Rattle.code_scan.specs.declared.rows.IntRow.{IntRow}
use Rattle.code_scan.specs.declared.rows.IntRow.TheVariants as ints
use Rattle.known_ints.specs.declared.rows.ValueRow.{ValueRow}
use Rattle.known_ints.specs.declared.rows.ValueRow.TheVariants as told
use Rattle.known_ints.specs.declared.parts.Part.{Part}
use Rattle.known_ints.specs.declared.parts.Part.TheVariants as does
use Rattle.known_ints.specs.Rows.{TellsValue}

-- what is told is so of the instruction at the place
abbrev pub IsValueLine : Program → (method place : ℕ) → ValueRow → Type 0
IsValueLine P m p value = (next : ℕ) (r : Row) → IsLine P m p next r → TellsValue value r

-- what reads a field does so, where the length of the arrays that the field holds is told
abbrev pub static_part : (array : Option ℤ) → Part
static_part (Some c) = does.StaticArray c
static_part None = does.Other

abbrev pub field_part : (array : Option ℤ) → Part
field_part (Some c) = does.FieldArray c
field_part None = does.Other

abbrev pub part_of : (array : Option ℤ) → ValueRow → Part
part_of array told.Push = does.Constant
part_of array (told.LoadReference k) = does.LoadReference k
part_of array told.ReadStatic = static_part array
part_of array told.ReadField = field_part array
part_of array told.Copy = does.Copy
part_of array (told.Compute a) = does.Compute a
part_of array told.NewArray = does.NewArray
part_of array told.Length = does.Length
part_of array told.StoreNumber = does.StoreNumber
part_of array told.Other = does.Other

abbrev pub part_told : (array : Option ℤ) → IntRow → ValueRow → Part
part_told array (ints.Load k) value = does.Load k
part_told array (ints.Store k) value = does.Store k
part_told array (ints.StoreLong k) value = does.StoreLong k
part_told array (ints.StoreReference k) value = does.StoreReference k
part_told array (ints.Increment k n) value = does.Increment k
part_told array row value = part_of array value

-- where the int constant that the instruction pushes is told, the constant of the field that it reads, and the length of the arrays that the field holds
abbrev pub part_by : (pushed field array : Option ℤ) → IntRow → ValueRow → Part
part_by (Some c) field array row value = does.Int c
part_by None (Some c) array row value = does.Field c
part_by None None array row value = part_told array row value
