-- Types by number, named by the numbers of what they are made of.
use Rattle.std.specs.Prelude.{◌≡◌, ℕ, List, Option, Some, is_some, IsTrue, slice_get}
use Rattle.std.specs.Option.{option_map}
use Rattle.bytecode_model.specs.Lists.{index_of}
use Rattle.bytecode_model.specs.Types.{Kind, OfClass, OfNumbers, OfReferences, same_kind}
use Rattle.resolved_program.specs.declared.types.TypeName.{TypeName}
use Rattle.resolved_program.specs.declared.types.TypeName.TheVariants.{Primitive, Class, Array}

-- what is named among types: arrays of numbers by their array type code, a class by its number, and arrays of references by the number of their
-- component's type
abbrev pub name_among : List Kind → Kind → Option TypeName
name_among types (OfNumbers code) = Some (Primitive code)
name_among types (OfClass class) = Some (Class class)
name_among types (OfReferences component) = option_map Array (index_of (same_kind component) types)

-- the components of the arrays of references among the types are among them
abbrev pub HaveComponents : List Kind → Type 0
HaveComponents types = (number : ℕ) (k : Kind) → slice_get types number ≡ Some (OfReferences k) → IsTrue (is_some (index_of (same_kind k) types))
