-- What the code's verification types and frames are: JVM Specification SE 8, 4.10.1.2 and 4.10.1.4.
use Rattle.std.specs.Prelude.{List, [], ◌∷◌, map, reverse}
use Rattle.bytecode_model.specs.Types as model
use Rattle.bytecode_model.specs.Rows as rows
use Rattle.program_tables.specs.Tables.{kind_seen}
use Rattle.bytecode_typing.specs.Types as typing
use Rattle.verifier_types.specs.declared.types.NumberType.{NumberType}
use Rattle.verifier_types.specs.declared.types.NumberType.TheVariants.{Int, Long}
use Rattle.verifier_types.specs.declared.types.Moved.{Moved}
use Rattle.verifier_types.specs.declared.types.Moved.TheVariants.{Ints, Longs, References}
use Rattle.verifier_types.specs.declared.types.VarType.{VarType}
use Rattle.verifier_types.specs.declared.types.VarType.TheVariants.{Top, Integer, LongInteger, Null, UninitializedThis, Uninitialized, Reference}
use Rattle.verifier_types.specs.declared.words.Width.{Width}
use Rattle.verifier_types.specs.declared.words.Width.TheVariants as widths
use Rattle.verifier_types.specs.declared.words.Form.{Form}
use Rattle.verifier_types.specs.declared.words.Form.TheVariants as forms
use Rattle.verifier_types.specs.declared.words.Group.{Group}
use Rattle.verifier_types.specs.declared.words.Group.TheVariants as groups

abbrev pub number_seen : NumberType → model.NumberType
number_seen Int = model.IntType
number_seen Long = model.LongType

abbrev pub moved_seen : Moved → model.Moved
moved_seen Ints = model.Numbers model.IntType
moved_seen Longs = model.Numbers model.LongType
moved_seen References = model.References

abbrev pub type_seen : VarType → typing.VarType
type_seen Top = typing.Top
type_seen Integer = typing.Integer
type_seen LongInteger = typing.LongInteger
type_seen Null = typing.NullReference
type_seen UninitializedThis = typing.UninitializedThis
type_seen (Uninitialized place) = typing.Uninitialized place
type_seen (Reference kind) = typing.ReferenceTo (kind_seen kind)

abbrev pub types_seen : List VarType → List typing.VarType
types_seen types = map type_seen types

-- of an operand stack that the code has from its bottom to its top
abbrev pub stack_seen : List VarType → List typing.VarType
stack_seen items = types_seen (reverse items)

-- ---- words of the operand stack

abbrev pub width_seen : Width → rows.Width
width_seen widths.Zero = rows.Zero
width_seen widths.One = rows.One
width_seen widths.Two = rows.Two

abbrev pub form_seen : Form → rows.StackForm
form_seen forms.Drop = rows.Drop
form_seen forms.Copy = rows.Copy
form_seen forms.Swap = rows.Swap

abbrev pub group_seen : Group → List typing.VarType
group_seen groups.Nothing = []
group_seen (groups.Item item) = type_seen item ∷ []
group_seen (groups.Pair top second) = type_seen top ∷ type_seen second ∷ []
