-- Types and their descriptors: JVM Specification SE 8, 4.3.
use Rattle.std.specs.Prelude.{◌≡◌, ℕ, ◌<◌, ◌≤◌, ◌^◌, ◌==◌, if◌then◌else◌, IsTrue, List, [], ◌∷◌, ◌++◌, replicate, sum_by, Option, Some, None}
use Prim.Native.Char.{code}
use Rattle.std.specs.List.{flat_map, AllByRecursion}
use Rattle.descriptors.specs.declared.descriptor.Element.{Element}
use Rattle.descriptors.specs.declared.descriptor.Element.TheVariants.{Byte, Char, Double, Float, Int, Long, Class, Short, Boolean}
use Rattle.descriptors.specs.declared.descriptor.FieldType.{FieldType}
use Rattle.descriptors.specs.declared.descriptor.MethodType.{MethodType}
use Rattle.descriptors.specs.Names.{is_class_name}

-- the letter of a type (table 4.3-A)
abbrev pub letter_of : Element → ℕ
letter_of Byte = code "B"
letter_of Char = code "C"
letter_of Double = code "D"
letter_of Float = code "F"
letter_of Int = code "I"
letter_of Long = code "J"
letter_of (Class name) = code "L"
letter_of Short = code "S"
letter_of Boolean = code "Z"

-- what stands behind the letter: a class's name and ;
abbrev pub behind_letter : Element → List ℕ
behind_letter (Class name) = name ++ code ";" ∷ []
behind_letter element = []

-- a [ for each dimension, then the element (4.3.2)
abbrev pub type_units : FieldType → List ℕ
type_units t = replicate t.dimensions (code "[") ++ (letter_of t.element ∷ behind_letter t.element)

abbrev pub IsElement : Element → Type 0
IsElement (Class name) = IsTrue (is_class_name name)
IsElement element = Unit {0}

-- at most 255 dimensions (4.3.2)
abbrev pub IsType : FieldType → Type 0
IsType t = (t.dimensions < 2 ^ 8) × IsElement t.element

-- long and double take two words (4.3.3)
abbrev pub element_words : Element → ℕ
element_words Double = 2
element_words Long = 2
element_words element = 1

abbrev pub words_of : FieldType → ℕ
words_of t = if t.dimensions == 0 then element_words t.element else 1

abbrev pub argument_words : List FieldType → ℕ
argument_words types = sum_by words_of types

-- V where there is no result
abbrev pub result_units : Option FieldType → List ℕ
result_units None = code "V" ∷ []
result_units (Some t) = type_units t

-- the types of the parameters in parentheses, then the result (4.3.3)
abbrev pub method_units : MethodType → List ℕ
method_units m = code "(" ∷ (flat_map type_units m.parameters ++ code ")" ∷ result_units m.result)

abbrev pub IsResult : Option FieldType → Type 0
IsResult None = Unit {0}
IsResult (Some t) = IsType t

-- at most 255 argument words (4.3.3)
pub record IsMethodType (m : MethodType) : Type 0 where
  pub parameters : AllByRecursion IsType m.parameters
  pub result : IsResult m.result
  pub words : argument_words m.parameters ≤ 255

-- the units are the descriptor of that type
abbrev pub IsFieldDescriptor : List ℕ → FieldType → Type 0
IsFieldDescriptor units t = IsType t × (units ≡ type_units t)

abbrev pub IsMethodDescriptor : List ℕ → MethodType → Type 0
IsMethodDescriptor units m = IsMethodType m × (units ≡ method_units m)
