-- The puts to fields of a program's instructions, with what they put as far as the tables of its methods tell.
use Rattle.std.specs.Prelude.{◌≡◌, ◌↔◌, ◌⊎◌, ℕ, ◌<◌, ℤ, Bool, if◌then◌else◌, List, [], ◌∷◌, ◌++◌, length, Contains, Some, None, slice_get}
use Rattle.std.specs.Option.{option_map}
use Rattle.std.specs.declared.option.Option.{Option}
use Rattle.lists.specs.Lists.{onto}
use Rattle.bytecode_model.specs.Program.{Program}
use Rattle.bytecode_model.specs.Rows.{Row}
use Rattle.code_lines.specs.Lines.{IsLine}
use Rattle.loop_rules.specs.Further.Found.{Table, known_at}
use Rattle.array_fields.specs.declared.rows.Field.{Field}
use Rattle.array_fields.specs.declared.rows.Field.TheVariants.{Static, Instance}
use Rattle.array_fields.specs.declared.puts.Put.{Put}
use Rattle.array_fields.specs.Rows.{put_by, put_at}
use Rattle.array_fields.specs.Contents.{Tells, content_at, flag_at}
use Rattle.array_fields.specs.declared.contents.Content.{Content}

-- the length of the array that lines push which end at the place of a method, as the tables tell it
abbrev pub length_put : List Table → (method place : ℕ) → Option ℤ
length_put ts m p = onto (slice_get ts m) (λ t. option_map (λ x. x.value) (known_at t.lengths p))

-- the instruction at the place puts to the field
abbrev pub PutsField : Program → (method place : ℕ) → Field → Type 0
PutsField P m p f = (next : ℕ) × (r : Row) × IsLine P m p next r × (put_by r ≡ Some f)

-- an instruction of the program puts so
pub record IsPut (P : Program) (ts : List Table) (x : Put) : Type 0 where
  pub method : ℕ
  pub place : ℕ
  pub puts : PutsField P method place x.field
  pub length : length_put ts method place ≡ x.length

-- just the puts of the program
abbrev pub ArePuts : Program → List Table → List Put → Type 0
ArePuts P ts xs = (x : Put) → Contains xs x ↔ IsPut P ts x

-- ---- as the instructions are gone through

-- a put of this length more, where the instruction puts to a field
abbrev pub with_put : List Put → Option Field → (length : Option ℤ) → List Put
with_put xs None l = xs
with_put xs (Some f) l = xs ++ record { field = f; length = l } ∷ []

-- the instruction at the place of a method puts so
abbrev pub IsPutAt : Program → List Table → (method place : ℕ) → Put → Type 0
IsPutAt P ts m p x = (put_at P m p ≡ Some x.field) × (length_put ts m p ≡ x.length)

-- just the puts at these places of a method more
abbrev pub HasPutsAt : Program → List Table → (method : ℕ) → (places : List ℕ) → (old new : List Put) → Type 0
HasPutsAt P ts m ps old new = (x : Put) → Contains new x ↔ (Contains old x ⊎ ((p : ℕ) × Contains ps p × IsPutAt P ts m p x))

-- just the puts of so many methods
abbrev pub ArePutsBelow : Program → List Table → (count : ℕ) → List Put → Type 0
ArePutsBelow P ts n xs = (x : Put) → Contains xs x ↔ ((put : IsPut P ts x) × (put.method < n))

-- ---- what they put to fields

-- the number of a static field
abbrev pub static_index : Field → Option ℕ
static_index (Static f) = Some f
static_index (Instance owner index) = None

-- the index of an instance field, where the class that declares it is flagged
abbrev pub flagged_index : (flags : List Bool) → Field → Option ℕ
flagged_index flags (Static f) = None
flagged_index flags (Instance owner index) = if flag_at flags owner then Some index else None

-- the static field to which a put puts
abbrev pub static_target : Put → Option ℕ
static_target x = static_index x.field

-- the index of the instance field to which a put may put, where it does so by a class that is flagged
abbrev pub field_target : (flags : List Bool) → Put → Option ℕ
field_target flags x = flagged_index flags x.field

-- puts that put so to the field of an index
abbrev pub PutsTo : (target : Put → Option ℕ) → List Put → (index : ℕ) → (length : Option ℤ) → Type 0
PutsTo target xs i l = (x : Put) × Contains xs x × (target x ≡ Some i) × (x.length ≡ l)

-- of so many fields, what these puts put to them
abbrev pub AreContents : (target : Put → Option ℕ) → (count : ℕ) → List Put → List Content → Type 0
AreContents target n xs contents = (length contents ≡ n) × ((i : ℕ) → i < n → Tells (content_at contents i) (PutsTo target xs i))
