-- With what fields begin, and of which classes objects are there at the start (JVM Specification SE 8, 2.3, 2.4 and 5.5).
use Rattle.std.specs.Prelude.{◌≡◌, ◌↔◌, ℕ, ◌<◌, Bool, true, false, ◌&&◌, ◌||◌, nat_lt, List, length}
use Rattle.std.specs.List.{list_any}
use Rattle.bytecode_model.specs.declared.Value.{Value}
use Rattle.bytecode_model.specs.declared.Value.TheVariants.{Null}
use Rattle.bytecode_model.specs.Types.{Declared, Numeric, Reference}
use Rattle.bytecode_model.specs.Program.{Program, string_class}
use Rattle.class_pool.specs.declared.class.ClassFile.{ClassFile}
use Rattle.program_tables.specs.Core.{raised_classes}
use Rattle.program_tables.specs.Numbers.{strings_of}
use Rattle.program_tables.specs.Resolved.{resolved}
use Rattle.array_fields.specs.Contents.{flag_at}

abbrev pub is_null : Value → Bool
is_null Null = true
is_null v = false

abbrev pub is_reference : Declared → Bool
is_reference (Numeric t) = false
is_reference (Reference k) = true

-- objects at the start are one of each class that instructions raise, and the string literals with their arrays: one of them has the class
abbrev pub has_first_object : List ClassFile → (class : ℕ) → Bool
has_first_object cs d =
    list_any (λ c. (resolved cs).extends c d) raised_classes || (nat_lt 0 (length (strings_of cs)) && (resolved cs).extends string_class d)

-- of so many classes, those that have a subclass in common with the class
abbrev pub AreSharing : Program → (count class : ℕ) → (flags : List Bool) → Type 0
AreSharing P n owner flags =
    (length flags ≡ n)
    × ((other : ℕ) → (flag_at flags other ≡ true)
    ↔ ((other < n) × (class : ℕ) × (class < n) × (P.extends class owner ≡ true) × (P.extends class other ≡ true)))

-- flags after those of the classes are set which a class extends
abbrev pub HasMarked : Program → (class : ℕ) → (old new : List Bool) → Type 0
HasMarked P c old new =
    (length new ≡ length old) × ((other : ℕ) → other < length old → flag_at new other ≡ (flag_at old other || P.extends c other))
