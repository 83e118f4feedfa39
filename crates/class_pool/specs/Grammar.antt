-- Which entries are a pool, and what its indexes point at: JVM Specification SE 8, 4.4.
use Rattle.std.specs.Prelude.{◌≡◌, ℕ, zero, suc, ◌+◌, ◌<◌, ◌^◌, Bool, true, false, ◌&&◌, ◌||◌, ◌==◌, nat_le, if◌then◌else◌, IsTrue, Option, Some, None, List}
use Rattle.std.specs.Prelude.{unwrap_or, [], ◌∷◌, length, slice_get, not, bit_and}
use Rattle.std.specs.List.{AllByRecursion}
use Rattle.class_pool.specs.declared.entry.Entry.{Entry}
use Rattle.class_pool.specs.declared.entry.Entry.TheVariants.{Utf8, Long, Double, Class, Text, Field, Method, InterfaceMethod, NameAndType, Handle, MethodType}
use Rattle.class_pool.specs.declared.entry.Entry.TheVariants.{Dynamic, Second}
use Rattle.class_pool.specs.Spelling.{pool_bytes, IsEntryInRange}

-- Long and Double take two places (4.4.5)
abbrev pub takes_two : Entry → Bool
takes_two (Long n) = true
takes_two (Double bits) = true
takes_two entry = false

abbrev pub is_second : Entry → Bool
is_second Second = true
is_second entry = false

-- a place is a second one exactly behind an entry that takes two; due tells whether the first place here is
abbrev pub HaveSeconds : Bool → List Entry → Type 0
HaveSeconds due [] = due ≡ false
HaveSeconds due (entry ∷ entries) = (is_second entry ≡ due) × HaveSeconds (takes_two entry) entries

-- the entry of an index; indexes begin at 1
abbrev pub entry_at : List Entry → ℕ → Option Entry
entry_at entries zero = None
entry_at entries (suc place) = slice_get entries place

abbrev pub is_utf8 : Option Entry → Bool
is_utf8 (Some (Utf8 units)) = true
is_utf8 entry = false

abbrev pub is_class : Option Entry → Bool
is_class (Some (Class name)) = true
is_class entry = false

abbrev pub is_field : Option Entry → Bool
is_field (Some (Field owner member)) = true
is_field entry = false

abbrev pub is_method : Option Entry → Bool
is_method (Some (Method owner member)) = true
is_method entry = false

abbrev pub is_interface_method : Option Entry → Bool
is_interface_method (Some (InterfaceMethod owner member)) = true
is_interface_method entry = false

abbrev pub is_name_and_type : Option Entry → Bool
is_name_and_type (Some (NameAndType name descriptor)) = true
is_name_and_type entry = false

-- what a method handle of a kind refers to (4.4.8): kinds 1 to 4 a field, 5 and 8 a method of a class,
-- 6 and 7 a method of a class or an interface, 9 a method of an interface
abbrev pub is_handled : ℕ → Option Entry → Bool
is_handled kind entry =
    if nat_le 1 kind && nat_le kind 4 then is_field entry
    else if kind == 5 || kind == 8 then is_method entry
    else if kind == 6 || kind == 7 then is_method entry || is_interface_method entry
    else kind == 9 && is_interface_method entry

-- each index of an entry points at an entry of the right tag
abbrev pub points_rightly : List Entry → Entry → Bool
points_rightly entries (Class name) = is_utf8 (entry_at entries name)
points_rightly entries (Text units) = is_utf8 (entry_at entries units)
points_rightly entries (Field owner member) = is_class (entry_at entries owner) && is_name_and_type (entry_at entries member)
points_rightly entries (Method owner member) = is_class (entry_at entries owner) && is_name_and_type (entry_at entries member)
points_rightly entries (InterfaceMethod owner member) = is_class (entry_at entries owner) && is_name_and_type (entry_at entries member)
points_rightly entries (NameAndType name descriptor) = is_utf8 (entry_at entries name) && is_utf8 (entry_at entries descriptor)
points_rightly entries (Handle kind reference) = is_handled kind (entry_at entries reference)
points_rightly entries (MethodType descriptor) = is_utf8 (entry_at entries descriptor)
points_rightly entries (Dynamic bootstrap member) = is_name_and_type (entry_at entries member)
points_rightly entries entry = true

-- the entries are those of a pool, that of index i at place i - 1
pub record IsPool (entries : List Entry) : Type 0 where
  pub count : length entries + 1 < 2 ^ 16
  pub in_range : AllByRecursion IsEntryInRange entries
  pub seconds : HaveSeconds false entries
  pub references : AllByRecursion (λ entry. IsTrue (points_rightly entries entry)) entries

-- these bytes are that pool
pub record IsPoolOf (bytes : List ℕ) (entries : List Entry) : Type 0 where
  pub grammar : IsPool entries
  pub spelling : bytes ≡ pool_bytes entries

-- what readers of an entry answer
abbrev pub utf8_of : Option Entry → Option (List ℕ)
utf8_of (Some (Utf8 units)) = Some units
utf8_of entry = None

-- the units of a text; nothing where the index is that of no text
abbrev pub text_at : List Entry → (index : ℕ) → List ℕ
text_at pool index = unwrap_or (utf8_of (entry_at pool index)) []

abbrev pub class_name_of : Option Entry → Option ℕ
class_name_of (Some (Class name)) = Some name
class_name_of entry = None

abbrev pub name_and_type_of : Option Entry → Option (ℕ × ℕ)
name_and_type_of (Some (NameAndType name descriptor)) = Some (name, descriptor)
name_and_type_of entry = None

-- some of these flags are set
abbrev pub has : (flags mask : ℕ) → Bool
has flags mask = not (bit_and flags mask == 0)
