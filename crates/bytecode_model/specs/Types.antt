-- The types of values: JVM Specification SE 8, 2.2 to 2.4. Of the numbers, int and long; boolean, byte, char and short are kept as int (2.11.1).
use Rattle.std.specs.Prelude.{ℕ, Bool, true, false, ◌==◌, if◌then◌else◌, pos}
use Rattle.bytecode_model.specs.declared.Value.{Value}
use Rattle.bytecode_model.specs.declared.Value.TheVariants.{Int, Long, Ref, Null, Unset}

-- the types of numbers that are computed with
pub data NumberType : Type 0 where
  IntType : NumberType
  LongType : NumberType

-- what an object is: an instance of a class, by its number; an array of numbers, by its array type code; an array of references to objects of a kind
pub data Kind : Type 0 where
  OfClass : ℕ → Kind
  OfNumbers : ℕ → Kind
  OfReferences : Kind → Kind

-- the array type codes (6.5.newarray)
abbrev pub t_boolean : ℕ
t_boolean = 4

abbrev pub t_char : ℕ
t_char = 5

abbrev pub t_byte : ℕ
t_byte = 8

abbrev pub t_short : ℕ
t_short = 9

abbrev pub t_int : ℕ
t_int = 10

abbrev pub t_long : ℕ
t_long = 11

abbrev pub same_kind : Kind → Kind → Bool
same_kind (OfClass c) (OfClass d) = c == d
same_kind (OfNumbers a) (OfNumbers b) = a == b
same_kind (OfReferences k) (OfReferences l) = same_kind k l
same_kind k l = false

-- the declared type of a field, of a parameter or of a result (4.3)
pub data Declared : Type 0 where
  Numeric : NumberType → Declared
  Reference : Kind → Declared

-- which values a load, a store or a return moves (2.11.2 and 2.11.8)
pub data Moved : Type 0 where
  Numbers : NumberType → Moved
  References : Moved

abbrev pub moved_of : Declared → Moved
moved_of (Numeric t) = Numbers t
moved_of (Reference k) = References

-- whether the value is of that sort
abbrev pub is_moved : Moved → Value → Bool
is_moved (Numbers IntType) (Int n) = true
is_moved (Numbers LongType) (Long n) = true
is_moved References (Ref p) = true
is_moved References Null = true
is_moved sort v = false

-- whether the value may stand where this type is declared, as far as numbers are told from references
abbrev pub suits : Declared → Value → Bool
suits d v = is_moved (moved_of d) v

abbrev pub is_long : Value → Bool
is_long (Int n) = false
is_long (Long n) = true
is_long (Ref p) = false
is_long Null = false
is_long Unset = false

abbrev pub zero_of : NumberType → Value
zero_of IntType = Int (pos 0)
zero_of LongType = Long (pos 0)

-- the value that a field of this type begins with (2.3 and 2.4)
abbrev pub default : Declared → Value
default (Numeric t) = zero_of t
default (Reference k) = Null

-- the type of the elements of an array of numbers
abbrev pub element_type : (code : ℕ) → NumberType
element_type code = if code == t_long then LongType else IntType
