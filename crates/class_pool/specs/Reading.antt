-- Reading a pool from the front of bytes: what was read and the bytes behind it, or nothing.
use Rattle.std.specs.Prelude.{ℕ, zero, suc, ◌+◌, ◌-◌, ◌*◌, ◌%◌, ◌/◌, Bool, true, false, ◌&&◌, ◌||◌, ◌==◌, nat_lt, nat_le, if◌then◌else◌, List, [], ◌∷◌, length}
use Rattle.std.specs.Prelude.{take, drop, Option, Some, None}
use Rattle.std.specs.List.{list_all}
use Rattle.byteorder.specs.Endian.{big_number}
use Rattle.class_pool.specs.declared.entry.Entry.{Entry}
use Rattle.class_pool.specs.declared.entry.Entry.TheVariants as entries
use Rattle.class_pool.specs.declared.tag.Tag.{Tag}
use Rattle.class_pool.specs.declared.tag.Tag.TheVariants.{Utf8, Integer, Float, Long, Double, Class, Text, Field, Method, InterfaceMethod, NameAndType, Handle}
use Rattle.class_pool.specs.declared.tag.Tag.TheVariants.{MethodType, Dynamic}
use Rattle.base.specs.Reading.{◌>>=◌}
use Rattle.class_pool.specs.Utf8.{is_single}
use Rattle.class_pool.specs.Grammar.{takes_two, points_rightly}

-- a number of n bytes
abbrev pub number_in : ℕ → List ℕ → Option (ℕ × List ℕ)
number_in n bytes = if nat_lt (length bytes) n then None else Some (big_number n bytes, drop n bytes)

abbrev pub byte_in : List ℕ → Option (ℕ × List ℕ)
byte_in [] = None
byte_in (byte ∷ rest) = Some (byte, rest)

-- the forms of two and of three bytes
abbrev pub is_pair : ℕ → ℕ → Bool
is_pair a b = a / 32 == 6 && b / 64 == 2 && (nat_le 194 a || (a == 192 && b == 128))

abbrev pub pair : ℕ → ℕ → ℕ
pair a b = a % 32 * 64 + b % 64

abbrev pub is_triple : ℕ → ℕ → ℕ → Bool
is_triple a b c = a / 16 == 14 && b / 64 == 2 && c / 64 == 2 && (nat_le 225 a || nat_le 160 b)

abbrev pub triple : ℕ → ℕ → ℕ → ℕ
triple a b c = a % 16 * 4096 + b % 64 * 64 + c % 64

unfoldable pub unit_in : List ℕ → Option (ℕ × List ℕ)
unit_in [] = None
unit_in (a ∷ []) = if is_single a then Some (a, []) else None
unit_in (a ∷ b ∷ []) = if is_single a then Some (a, b ∷ []) else if is_pair a b then Some (pair a b, []) else None
unit_in (a ∷ b ∷ c ∷ rest) =
    if is_single a then Some (a, b ∷ c ∷ rest) else if is_pair a b then Some (pair a b, c ∷ rest) else if is_triple a b c then Some
    (triple a b c, rest) else None

abbrev pub with_unit : ℕ → Option (List ℕ) → Option (List ℕ)
with_unit unit read = read >>= λ units. Some (unit ∷ units)

-- all of the bytes as units
unfoldable pub units_in : List ℕ → Option (List ℕ)
units_in [] = Some []
units_in (a ∷ []) = if is_single a then Some (a ∷ []) else None
units_in (a ∷ b ∷ []) = if is_single a then with_unit a (units_in (b ∷ [])) else if is_pair a b then Some (pair a b ∷ []) else None
units_in (a ∷ b ∷ c ∷ rest) =
    if is_single a then with_unit a (units_in (b ∷ c ∷ rest)) else if is_pair a b then with_unit (pair a b)
    (units_in (c ∷ rest)) else if is_triple a b c then with_unit (triple a b c) (units_in rest) else None

-- so many bytes
abbrev pub front_in : ℕ → List ℕ → Option (List ℕ × List ℕ)
front_in n bytes = if nat_lt (length bytes) n then None else Some (take n bytes, drop n bytes)

unfoldable pub utf8_in : List ℕ → Option (List ℕ × List ℕ)
utf8_in bytes = do
  n ← number_in 2 bytes
  text ← front_in n.0 n.1
  units ← units_in text.0
  Some (units, text.1)

unfoldable pub indexes_in : List ℕ → Option ((ℕ × ℕ) × List ℕ)
indexes_in bytes = do
  a ← number_in 2 bytes
  b ← number_in 2 a.1
  Some ((a.0, b.0), b.1)

unfoldable pub handle_in : List ℕ → Option ((ℕ × ℕ) × List ℕ)
handle_in bytes = do
  kind ← byte_in bytes
  reference ← number_in 2 kind.1
  Some ((kind.0, reference.0), reference.1)

-- the tags (table 4.4-A)
unfoldable pub tag_number : Tag → ℕ
tag_number Utf8 = 1
tag_number Integer = 3
tag_number Float = 4
tag_number Long = 5
tag_number Double = 6
tag_number Class = 7
tag_number Text = 8
tag_number Field = 9
tag_number Method = 10
tag_number InterfaceMethod = 11
tag_number NameAndType = 12
tag_number Handle = 15
tag_number MethodType = 16
tag_number Dynamic = 18

abbrev pub tags : List Tag
tags = Utf8 ∷ Integer ∷ Float ∷ Long ∷ Double ∷ Class ∷ Text ∷ Field ∷ Method ∷ InterfaceMethod ∷ NameAndType ∷ Handle ∷ MethodType ∷ Dynamic ∷ []

abbrev pub first_with : ℕ → List Tag → Option Tag
first_with number [] = None
first_with number (tag ∷ others) = if number == tag_number tag then Some tag else first_with number others

unfoldable pub tag_in : ℕ → Option Tag
tag_in number = first_with number tags

-- what was read, as an entry
abbrev pub as_entry : {X : Type 0} → (X → Entry) → Option (X × List ℕ) → Option (Entry × List ℕ)
as_entry f read = read >>= λ x. Some (f x.0, x.1)

-- the parts of an entry behind its tag
unfoldable pub parts_in : Tag → List ℕ → Option (Entry × List ℕ)
parts_in Utf8 bytes = as_entry entries.Utf8 (utf8_in bytes)
parts_in Integer bytes = as_entry entries.Integer (number_in 4 bytes)
parts_in Float bytes = as_entry entries.Float (number_in 4 bytes)
parts_in Long bytes = as_entry entries.Long (number_in 8 bytes)
parts_in Double bytes = as_entry entries.Double (number_in 8 bytes)
parts_in Class bytes = as_entry entries.Class (number_in 2 bytes)
parts_in Text bytes = as_entry entries.Text (number_in 2 bytes)
parts_in Field bytes = as_entry (λ x. entries.Field x.0 x.1) (indexes_in bytes)
parts_in Method bytes = as_entry (λ x. entries.Method x.0 x.1) (indexes_in bytes)
parts_in InterfaceMethod bytes = as_entry (λ x. entries.InterfaceMethod x.0 x.1) (indexes_in bytes)
parts_in NameAndType bytes = as_entry (λ x. entries.NameAndType x.0 x.1) (indexes_in bytes)
parts_in Handle bytes = as_entry (λ x. entries.Handle x.0 x.1) (handle_in bytes)
parts_in MethodType bytes = as_entry entries.MethodType (number_in 2 bytes)
parts_in Dynamic bytes = as_entry (λ x. entries.Dynamic x.0 x.1) (indexes_in bytes)

-- the entry of the next place
unfoldable pub place_in : Bool → List ℕ → Option (Entry × List ℕ)
place_in true bytes = Some (entries.Second, bytes)
place_in false bytes = do
  number ← byte_in bytes
  tag ← tag_in number.0
  parts_in tag number.1

-- so many places
unfoldable pub places_in : ℕ → Bool → List ℕ → Option (List Entry × List ℕ)
places_in zero due bytes = if due then None else Some ([], bytes)
places_in (suc n) due bytes = do
  first ← place_in due bytes
  others ← places_in n (takes_two first.0) first.1
  Some (first.0 ∷ others.0, others.1)

unfoldable pub pool_in : List ℕ → Option (List Entry × List ℕ)
pool_in bytes = do
  count ← number_in 2 bytes
  found ← if count.0 == 0 then None else places_in (count.0 - 1) false count.1
  if list_all (points_rightly found.0) found.0 then Some found else None
