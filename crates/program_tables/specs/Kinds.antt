-- The types that Class entries and descriptors name: JVM Specification SE 8, 4.3.2, 4.4.1 and 6.5.newarray.
use Rattle.std.specs.Prelude.{ℕ, zero, suc, ◌==◌, if◌then◌else◌, List, [], ◌∷◌, ◌++◌, Option, Some, None}
use Rattle.std.specs.Option.{option_map, option_map_or}
use Rattle.std.specs.List.{filter_map, flat_map}
use Rattle.class_pool.specs.declared.entry.Entry.{Entry}
use Rattle.descriptors.specs.declared.descriptor.Element.{Element}
use Rattle.descriptors.specs.declared.descriptor.Element.TheVariants.{Byte, Char, Double, Float, Int, Long, Class, Short, Boolean}
use Rattle.descriptors.specs.declared.descriptor.FieldType.{FieldType}
use Rattle.descriptors.specs.declared.descriptor.MethodType.{MethodType}
use Rattle.descriptors.specs.Names.{is_class_name}
use Rattle.descriptors.specs.Parsing.{field_in, method_in}
use Rattle.class_pool.specs.declared.class.ClassFile.{ClassFile}
use Rattle.bytecode_model.specs.Lists.{onto}
use Rattle.bytecode_model.specs.Types.{IntType, LongType, Kind, OfClass, OfNumbers, OfReferences, Declared, Numeric, Reference, t_boolean, t_char, t_byte}
use Rattle.bytecode_model.specs.Types.{t_short, t_int, t_long}
use Rattle.class_lookup.specs.Parts.{class_text}
use Rattle.class_lookup.specs.Hierarchy.{find_class}

-- a class or an array class as a type: the name of a class, or the descriptor of an array (4.4.1)
abbrev pub type_named : List ℕ → Option FieldType
type_named text = if is_class_name text then Some (record { dimensions = 0; element = Class text }) else field_in text

abbrev pub class_type : List Entry → (index : ℕ) → Option FieldType
class_type pool index = type_named (class_text pool index)

-- ---- the names of classes

abbrev pub class_in_element : Element → List (List ℕ)
class_in_element (Class name) = name ∷ []
class_in_element element = []

abbrev pub class_in_type : FieldType → List (List ℕ)
class_in_type t = class_in_element t.element

-- of the parameters from left to right, then of the result
abbrev pub classes_in_method_type : MethodType → List (List ℕ)
classes_in_method_type m = flat_map class_in_type m.parameters ++ option_map_or class_in_type m.result []

abbrev pub classes_in_field_descriptor : List ℕ → List (List ℕ)
classes_in_field_descriptor text = option_map_or class_in_type (field_in text) []

abbrev pub classes_in_method_descriptor : List ℕ → List (List ℕ)
classes_in_method_descriptor text = option_map_or classes_in_method_type (method_in text) []

-- the class, or the class of an array's elements, that a Class entry names
abbrev pub class_in_entry : List Entry → (index : ℕ) → List (List ℕ)
class_in_entry pool index = option_map_or class_in_type (class_type pool index) []

-- ---- kinds of objects

-- the array type code of an array with such elements
abbrev pub array_code : Element → ℕ
array_code Byte = t_byte
array_code Char = t_char
array_code Double = 7
array_code Float = 6
array_code Int = t_int
array_code Long = t_long
array_code (Class name) = 0
array_code Short = t_short
array_code Boolean = t_boolean

abbrev pub arrays_of : (dimensions : ℕ) → Kind → Kind
arrays_of zero k = k
arrays_of (suc n) k = OfReferences (arrays_of n k)

-- an array of so many dimensions whose elements are numbers; of none they are no objects
abbrev pub arrays_of_numbers : (dimensions code : ℕ) → Option Kind
arrays_of_numbers zero code = None
arrays_of_numbers (suc n) code = Some (arrays_of n (OfNumbers code))

abbrev pub kind_by : List ClassFile → (dimensions : ℕ) → Element → Option Kind
kind_by cs n (Class name) = option_map (λ c. arrays_of n (OfClass c)) (find_class cs name)
kind_by cs n element = arrays_of_numbers n (array_code element)

-- what an object of a reference type is, where the type's class is there
abbrev pub kind_of_type : List ClassFile → FieldType → Option Kind
kind_of_type cs t = kind_by cs t.dimensions t.element

abbrev pub kind_of_entry : List ClassFile → List Entry → (index : ℕ) → Option Kind
kind_of_entry cs pool index = onto (class_type pool index) (kind_of_type cs)

-- ---- declared types

-- the numbers that are computed with; float and double aren't supported
abbrev pub number_declared : Element → Option Declared
number_declared Byte = Some (Numeric IntType)
number_declared Char = Some (Numeric IntType)
number_declared Int = Some (Numeric IntType)
number_declared Short = Some (Numeric IntType)
number_declared Boolean = Some (Numeric IntType)
number_declared Long = Some (Numeric LongType)
number_declared element = None

abbrev pub reference_declared : List ClassFile → FieldType → Option Declared
reference_declared cs t = option_map Reference (kind_of_type cs t)

abbrev pub declared_by : List ClassFile → FieldType → Element → Option Declared
declared_by cs t (Class name) = reference_declared cs t
declared_by cs t element = if t.dimensions == 0 then number_declared element else reference_declared cs t

abbrev pub declared_of : List ClassFile → FieldType → Option Declared
declared_of cs t = declared_by cs t t.element

-- by descriptors; a resolved program has all of them
abbrev pub field_declared : List ClassFile → (descriptor : List ℕ) → Option Declared
field_declared cs text = onto (field_in text) (declared_of cs)

abbrev pub parameters_declared : List ClassFile → (descriptor : List ℕ) → List Declared
parameters_declared cs text = option_map_or (λ m. filter_map (declared_of cs) m.parameters) (method_in text) []

abbrev pub result_declared : List ClassFile → (descriptor : List ℕ) → Option Declared
result_declared cs text = onto (method_in text) (λ m. onto m.result (declared_of cs))
