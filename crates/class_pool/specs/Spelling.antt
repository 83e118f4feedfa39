-- The bytes of a pool: JVM Specification SE 8, 4.1 and 4.4.
use Rattle.std.specs.Prelude.{ℕ, ◌+◌, ◌<◌, ◌^◌, List, [], ◌∷◌, ◌++◌, length}
use Rattle.std.specs.List.{flat_map}
use Rattle.byteorder.specs.Endian.{big_bytes}
use Rattle.class_pool.specs.declared.entry.Entry.{Entry}
use Rattle.class_pool.specs.declared.entry.Entry.TheVariants.{Utf8, Integer, Float, Long, Double, Class, Text, Field, Method, InterfaceMethod, NameAndType}
use Rattle.class_pool.specs.declared.entry.Entry.TheVariants.{Handle, MethodType, Dynamic, Second}
use Rattle.class_pool.specs.Utf8.{utf8_bytes, AreUnits}

-- numbers of 2, 4 and 8 bytes, the highest byte first
abbrev pub u2 : ℕ → List ℕ
u2 n = big_bytes 2 n

abbrev pub u4 : ℕ → List ℕ
u4 n = big_bytes 4 n

abbrev pub u8 : ℕ → List ℕ
u8 n = big_bytes 8 n

-- the tag of an entry, and its parts; the second place of a Long or a Double has no bytes
abbrev pub entry_bytes : Entry → List ℕ
entry_bytes (Utf8 units) = 1 ∷ (u2 (length (utf8_bytes units)) ++ utf8_bytes units)
entry_bytes (Integer n) = 3 ∷ u4 n
entry_bytes (Float bits) = 4 ∷ u4 bits
entry_bytes (Long n) = 5 ∷ u8 n
entry_bytes (Double bits) = 6 ∷ u8 bits
entry_bytes (Class name) = 7 ∷ u2 name
entry_bytes (Text units) = 8 ∷ u2 units
entry_bytes (Field owner member) = 9 ∷ (u2 owner ++ u2 member)
entry_bytes (Method owner member) = 10 ∷ (u2 owner ++ u2 member)
entry_bytes (InterfaceMethod owner member) = 11 ∷ (u2 owner ++ u2 member)
entry_bytes (NameAndType name descriptor) = 12 ∷ (u2 name ++ u2 descriptor)
entry_bytes (Handle kind reference) = 15 ∷ kind ∷ u2 reference
entry_bytes (MethodType descriptor) = 16 ∷ u2 descriptor
entry_bytes (Dynamic bootstrap member) = 18 ∷ (u2 bootstrap ++ u2 member)
entry_bytes Second = []

-- the numbers of an entry fit their bytes
abbrev pub IsEntryInRange : Entry → Type 0
IsEntryInRange (Utf8 units) = AreUnits units × (length (utf8_bytes units) < 2 ^ 16)
IsEntryInRange (Integer n) = n < 2 ^ 32
IsEntryInRange (Float bits) = bits < 2 ^ 32
IsEntryInRange (Long n) = n < 2 ^ 64
IsEntryInRange (Double bits) = bits < 2 ^ 64
IsEntryInRange (Class name) = name < 2 ^ 16
IsEntryInRange (Text units) = units < 2 ^ 16
IsEntryInRange (Field owner member) = (owner < 2 ^ 16) × (member < 2 ^ 16)
IsEntryInRange (Method owner member) = (owner < 2 ^ 16) × (member < 2 ^ 16)
IsEntryInRange (InterfaceMethod owner member) = (owner < 2 ^ 16) × (member < 2 ^ 16)
IsEntryInRange (NameAndType name descriptor) = (name < 2 ^ 16) × (descriptor < 2 ^ 16)
IsEntryInRange (Handle kind reference) = (kind < 2 ^ 8) × (reference < 2 ^ 16)
IsEntryInRange (MethodType descriptor) = descriptor < 2 ^ 16
IsEntryInRange (Dynamic bootstrap member) = (bootstrap < 2 ^ 16) × (member < 2 ^ 16)
IsEntryInRange Second = Unit {0}

-- the bytes of a pool: one more than its places, and its entries
abbrev pub pool_bytes : List Entry → List ℕ
pool_bytes entries = u2 (length entries + 1) ++ flat_map entry_bytes entries
