-- The constants of static final ints (JVM Specification SE 8, 4.7.2), and those that no instruction writes.
use Rattle.std.specs.Prelude.{◌≡◌, ◌↔◌, ℕ, ◌<◌, ◌&&◌, Bool, ℤ, List, length, codes, Some, None, IsSome, slice_get, if◌then◌else◌}
use Rattle.std.specs.declared.option.Option.{Option}
use Rattle.std.specs.Int.{w32, cast_signed}
use Rattle.class_pool.specs.declared.entry.Entry.{Entry}
use Rattle.class_pool.specs.declared.entry.Entry.TheVariants as entries
use Rattle.class_pool.specs.declared.class.Member.{Member}
use Rattle.class_pool.specs.declared.class.ClassFile.{ClassFile}
use Rattle.class_lookup.specs.Parts.{is_final, same_text}
use Rattle.class_pool.specs.Grammar.{text_at}
use Rattle.class_lookup.specs.Lookup.{Place, field_at}
use Rattle.lists.specs.Lists.{onto}
use Rattle.bytecode_model.specs.Program.{Program, body_of}
use Rattle.program_tables.specs.Numbers.{constant_entry, static_fields}
use Rattle.program_tables.specs.Resolved.{resolved}
use Rattle.bytecode_model.specs.Rows as rows
use Rattle.code_lines.specs.Lines.{IsLine, IsNeverPut}
use Rattle.loop_rules.specs.Tests.{Constants}
use Rattle.loop_rules.specs.Sites.{SitesOf, AreSitesOf, int_at}

abbrev pub int_of_entry : Entry → Option ℤ
int_of_entry (entries.Integer n) = Some (cast_signed w32 n)
int_of_entry entry = None

-- the field is final, and its descriptor is I (4.3.2, 4.5)
abbrev pub is_final_int : ClassFile → Member → Bool
is_final_int c k = is_final k && same_text (text_at c.pool k.descriptor) (codes "I")

-- the int that its constant is (4.7.2)
abbrev pub int_constant : ClassFile → Member → Option ℤ
int_constant c k = onto (constant_entry c k) int_of_entry

abbrev pub constant_in : ClassFile → Member → Option ℤ
constant_in c k = if is_final_int c k then int_constant c k else None

abbrev pub constant_int : List ClassFile → Place → Option ℤ
constant_int cs f = onto (slice_get cs f.0) (λ c. onto (field_at cs f) (constant_in c))

-- the constant of the static field of this number
abbrev pub constant_of_static : List ClassFile → (field : ℕ) → Option ℤ
constant_of_static cs f = onto (slice_get (static_fields cs) f) (constant_int cs)

-- just the constants of static final ints that no instruction of the program writes, by number of the field
abbrev pub AreConstants : List ClassFile → List (Option ℤ) → Type 0
AreConstants cs left = (f : ℕ) (c : ℤ) → (int_at left f ≡ Some c) ↔ ((constant_of_static cs f ≡ Some c) × IsNeverPut (resolved cs) f)

-- the sites of each method with code
pub record AreMethodSites (P : Program) (constants : Constants) (methods : List SitesOf) : Type 0 where
  pub coded : (m : ℕ) → IsSome (body_of P m) ↔ (m < length methods)
  pub each : (m : ℕ) (x : SitesOf) → slice_get methods m ≡ Some x → AreSitesOf P constants m x

-- ---- as the methods are gone through

-- no instruction of so many methods writes the field
abbrev pub IsNeverPutBelow : Program → (count field : ℕ) → Type 0
IsNeverPutBelow P n f = (m p next : ℕ) → m < n → ¬ IsLine P m p next (rows.PutStatic f)

abbrev pub AreConstantsBelow : List ClassFile → (count : ℕ) → List (Option ℤ) → Type 0
AreConstantsBelow cs n left = (f : ℕ) (c : ℤ) → (int_at left f ≡ Some c) ↔ ((constant_of_static cs f ≡ Some c) × IsNeverPutBelow (resolved cs) n f)

-- the sites of so many methods, each of which has code
pub record AreSitesBelow (P : Program) (constants : Constants) (n : ℕ) (methods : List SitesOf) : Type 0 where
  pub long : length methods ≡ n
  pub coded : (m : ℕ) → m < n → IsSome (body_of P m)
  pub each : (m : ℕ) (x : SitesOf) → slice_get methods m ≡ Some x → AreSitesOf P constants m x
