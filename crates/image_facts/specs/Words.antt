-- The words of values and objects (JVM Specification SE 8, 2.2 to 2.4).
use Rattle.std.specs.Prelude.{ℕ, ◌/◌, ◌%◌, ◌^◌, ℤ, Bool, true, false, List, [], ◌∷◌, ◌++◌, length, Option, Some}
use Rattle.std.specs.List.{flat_map}
use Rattle.std.specs.Int.{w32, w64, cast_unsigned}
use Rattle.bytecode_model.specs.declared.Value.{Value}
use Rattle.bytecode_model.specs.declared.Value.TheVariants.{Int, Long, Ref, Null, Unset}
use Rattle.bytecode_model.specs.Types.{LongType, Kind, OfClass, Declared, Numeric}
use Rattle.bytecode_model.specs.State.{Object}
use Rattle.bytecode_model.specs.Program.{Program, kind_of}

abbrev pub int_word : ℤ → ℕ
int_word n = cast_unsigned w32 n

abbrev pub high_word : ℤ → ℕ
high_word n = cast_unsigned w64 n / 2 ^ 32

abbrev pub low_word : ℤ → ℕ
low_word n = cast_unsigned w64 n % 2 ^ 32

-- The words of a value, where each object lies at a place: an int its bits, a long its high word and then its low one, null 0.
-- An unset value, which no object and no static field has, counts as 0.
abbrev pub words_of : (place : ℕ → ℕ) → Value → List ℕ
words_of place (Int n) = int_word n ∷ []
words_of place (Long n) = high_word n ∷ low_word n ∷ []
words_of place (Ref p) = place p ∷ []
words_of place Null = 0 ∷ []
words_of place Unset = 0 ∷ []

-- an array has a word for its length
abbrev pub length_words : Option Kind → ℕ → List ℕ
length_words (Some (OfClass c)) n = []
length_words k n = n ∷ []

-- the words of an object: the place of its type, the length of an array, and its fields or elements
abbrev pub object_image : Program → (type : ℕ → ℕ) → (place : ℕ → ℕ) → Object → List ℕ
object_image P type place o = type o.kind ∷ (length_words (kind_of P o) (length o.parts) ++ flat_map (words_of place) o.parts)

-- a field of type long takes two words
abbrev pub is_long_type : Declared → Bool
is_long_type (Numeric LongType) = true
is_long_type d = false

abbrev pub declared_words : Declared → ℕ
declared_words (Numeric LongType) = 2
declared_words d = 1
