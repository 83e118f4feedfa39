-- Reading types from the front of units: what was read and the units behind it, or nothing.
use Rattle.std.specs.Prelude.{ℕ, zero, suc, ◌+◌, ◌&&◌, ◌==◌, nat_lt, nat_le, if◌then◌else◌, List, [], ◌∷◌, length, Option, Some, None}
use Rattle.base.specs.Reading.{◌>>=◌, whole}
use Prim.Native.Char.{code}
use Rattle.descriptors.specs.declared.descriptor.Element.{Element}
use Rattle.descriptors.specs.declared.descriptor.Element.TheVariants.{Byte, Char, Double, Float, Int, Long, Class, Short, Boolean}
use Rattle.descriptors.specs.declared.descriptor.FieldType.{FieldType}
use Rattle.descriptors.specs.declared.descriptor.MethodType.{MethodType}
use Rattle.descriptors.specs.Names.{is_class_name}
use Rattle.descriptors.specs.Descriptors.{letter_of, argument_words}

-- what stands behind a unit, if it is the first
abbrev pub behind : ℕ → List ℕ → Option (List ℕ)
behind wanted [] = None
behind wanted (unit ∷ units) = if unit == wanted then Some units else None

abbrev pub primitives : List Element
primitives = Byte ∷ Char ∷ Double ∷ Float ∷ Int ∷ Long ∷ Short ∷ Boolean ∷ []

abbrev pub first_with : ℕ → List Element → Option Element
first_with letter [] = None
first_with letter (element ∷ others) = if letter == letter_of element then Some element else first_with letter others

unfoldable pub primitive_in : ℕ → Option Element
primitive_in letter = first_with letter primitives

-- the units before the first ; and those behind it
unfoldable pub split_in : List ℕ → Option (List ℕ × List ℕ)
split_in [] = None
split_in (unit ∷ units) = if unit == code ";" then Some ([], units) else (split_in units >>= λ x. Some (unit ∷ x.0, x.1))

unfoldable pub class_in : List ℕ → Option (Element × List ℕ)
class_in units = do
  name ← split_in units
  if is_class_name name.0 then Some (Class name.0, name.1) else None

unfoldable pub element_in : List ℕ → Option (Element × List ℕ)
element_in [] = None
element_in (letter ∷ units) = if letter == code "L" then class_in units else (primitive_in letter >>= λ element. Some (element, units))

abbrev pub with_dimensions : ℕ → Option (Element × List ℕ) → Option (FieldType × List ℕ)
with_dimensions n read = read >>= λ x. Some (record { dimensions = n; element = x.0 }, x.1)

-- behind so many [
unfoldable pub type_from : ℕ → List ℕ → Option (FieldType × List ℕ)
type_from n [] = None
type_from n (unit ∷ units) = if unit == code "[" then (if nat_lt n 255 then type_from (n + 1) units else None) else with_dimensions n
    (element_in (unit ∷ units))

abbrev pub type_in : List ℕ → Option (FieldType × List ℕ)
type_in units = type_from 0 units

-- at most so many types and the ) behind them
unfoldable pub types_in : ℕ → List ℕ → Option (List FieldType × List ℕ)
types_in zero units = None
types_in (suc n) [] = None
types_in (suc n) (unit ∷ units) =
    if unit == code ")" then Some ([], units)
    else (type_in (unit ∷ units) >>= λ first. types_in n first.1 >>= λ others. Some (first.0 ∷ others.0, others.1))

-- all of the units as a field's type
unfoldable pub field_in : List ℕ → Option FieldType
field_in units = do
  found ← type_in units
  whole found

-- all of the units as a result
unfoldable pub result_in : List ℕ → Option (Option FieldType)
result_in [] = None
result_in (unit ∷ units) =
    if unit == code "V" && length units == 0 then Some None else (field_in (unit ∷ units) >>= λ t. Some (Some t))

-- all of the units as a method's types
unfoldable pub method_in : List ℕ → Option MethodType
method_in [] = None
method_in (unit ∷ units) =
    if unit == code "(" then
    (types_in (length units) units >>= λ parameters. result_in parameters.1 >>= λ result.
    (if nat_le (argument_words parameters.0) 255 then Some (record { parameters = parameters.0; result = result }) else None))
    else None
