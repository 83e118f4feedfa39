-- The lengths of the arrays that fields hold, by the puts of a program.
use Rattle.std.specs.Prelude.{◌≡◌, ◌↔◌, ℕ, ◌<◌, ℤ, pos, Bool, true, List, length, Contains, Some, None, IsSome, slice_get}
use Rattle.std.specs.Option.{option_map, IsSomeAnd}
use Rattle.std.specs.declared.option.Option.{Option}
use Rattle.lists.specs.Lists.{onto}
use Rattle.bytecode_model.specs.Lists.{natural}
use Rattle.bytecode_model.specs.declared.Value.TheVariants.{Null}
use Rattle.bytecode_model.specs.State.{Object}
use Rattle.bytecode_model.specs.Program.{Program, body_of, kind_of}
use Rattle.bytecode_model.specs.Effects.{has_class}
use Rattle.loop_rules.specs.Further.Known.{Known}
use Rattle.loop_rules.specs.Further.Fields.{IsReferenceType}
use Rattle.loop_rules.specs.Further.Arrays.{length_at, AreArraysRead}
use Rattle.array_fields.specs.declared.rows.Field.{Field}
use Rattle.array_fields.specs.declared.rows.Field.TheVariants.{Static, Instance}
use Rattle.array_fields.specs.declared.puts.Put.{Put}
use Rattle.array_fields.specs.declared.contents.Content.{Content}
use Rattle.array_fields.specs.declared.contents.Content.TheVariants.{Arrays}
use Rattle.array_fields.specs.Rows.{read_at}
use Rattle.array_fields.specs.Contents.{content_at, flag_at}
use Rattle.array_fields.specs.Puts.{PutsTo, static_target}

-- the lengths of the arrays that static fields hold, by number, and those that instance fields hold, by class and index
pub record FieldLengths : Type 0 where
  pub statics : List (Option ℤ)
  pub fields : List (List (Option ℤ))

abbrev pub static_length : FieldLengths → (field : ℕ) → Option ℕ
static_length a f = onto (length_at a.statics f) natural

abbrev pub field_length : FieldLengths → (owner index : ℕ) → Option ℕ
field_length a owner index = onto (slice_get a.fields owner) (λ xs. onto (length_at xs index) natural)

-- what is known of fields by these lengths, where these are the constants
abbrev pub known_by : (constants : (field : ℕ) → Option ℤ) → FieldLengths → Known
known_by constants a = record { constants = constants; statics = static_length a; fields = field_length a }

-- ---- where they are read

-- a length, which isn't negative
abbrev pub natural_length : Option ℤ → Option ℤ
natural_length l = onto l (λ c. option_map (λ n. pos n) (natural c))

-- the length of the arrays that the field holds
abbrev pub array_of : FieldLengths → Field → Option ℤ
array_of a (Static f) = option_map (λ n. pos n) (static_length a f)
array_of a (Instance owner index) = option_map (λ n. pos n) (field_length a owner index)

-- that of the field that the instruction at a place of a method reads
abbrev pub array_read : Program → FieldLengths → (method place : ℕ) → Option ℤ
array_read P a m p = onto (read_at P m p) (array_of a)

-- these are just the ints of these places
abbrev pub AreIntsOf : (int_of : (place : ℕ) → Option ℤ) → (places : List ℕ) → List (Option ℤ) → Type 0
AreIntsOf int_of ps xs = (p : ℕ) (c : ℤ) → (length_at xs p ≡ Some c) ↔ (Contains ps p × (int_of p ≡ Some c))

-- the lengths that so many methods read, each of which has code
pub record AreArraysBelow (P : Program) (known : Known) (n : ℕ) (xss : List (List (Option ℤ))) : Type 0 where
  pub long : length xss ≡ n
  pub coded : (m : ℕ) → m < n → IsSome (body_of P m)
  pub each : (m : ℕ) (xs : List (Option ℤ)) → slice_get xss m ≡ Some xs → AreArraysRead P known m xs

-- ---- by puts

-- the length, where it is kept
abbrev pub length_kept : Bool → Content → Option ℤ
length_kept true (Arrays n) = Some n
length_kept b content = None

-- the lengths of the contents whose index is flagged
abbrev pub AreLengthsKept : (flags : List Bool) → List Content → List (Option ℤ) → Type 0
AreLengthsKept flags contents xs =
    (length xs ≡ length flags) × ((i : ℕ) → i < length flags → length_at xs i ≡ length_kept (flag_at flags i) (content_at contents i))

-- the static field begins with null, and these puts put null or arrays of so many elements to it alone
pub record HoldsStatic (P : Program) (puts : List Put) (f : ℕ) (c : ℤ) : Type 0 where
  pub first : slice_get P.first_statics f ≡ Some Null
  pub put : PutsTo static_target puts f (Some c)
  pub each : (l : Option ℤ) → PutsTo static_target puts f l → l ≡ Some c

abbrev pub AreStaticLengths : Program → List Put → List (Option ℤ) → Type 0
AreStaticLengths P puts xs = (f : ℕ) (c : ℤ) → (length_at xs f ≡ Some c) ↔ HoldsStatic P puts f c

-- the put may put to the instance field: the class of what it writes and the field's have a subclass in common
pub record MayPut (P : Program) (owner index : ℕ) (x : Put) : Type 0 where
  pub other : ℕ
  pub class : ℕ
  pub field : x.field ≡ Instance other index
  pub of_owner : P.extends class owner ≡ true
  pub of_other : P.extends class other ≡ true

-- a put of this length among these may put to it
abbrev pub PutsToField : Program → List Put → (owner index : ℕ) → (length : Option ℤ) → Type 0
PutsToField P puts owner index l = (x : Put) × Contains puts x × MayPut P owner index x × (x.length ≡ l)

-- no object at the start has the class
abbrev pub HasNoFirstObject : Program → (class : ℕ) → Type 0
HasNoFirstObject P owner = (p : ℕ) (o : Object) → slice_get P.first_objects p ≡ Some o → ¬ (has_class P (kind_of P o) owner ≡ true)

-- the instance field is a reference, no object at the start has it, and these puts put null or arrays of so many elements to it alone
pub record HoldsField (P : Program) (puts : List Put) (owner index : ℕ) (c : ℤ) : Type 0 where
  pub reference : IsSomeAnd (slice_get (P.fields owner) index) IsReferenceType
  pub first : HasNoFirstObject P owner
  pub put : PutsToField P puts owner index (Some c)
  pub each : (l : Option ℤ) → PutsToField P puts owner index l → l ≡ Some c

abbrev pub AreFieldLengths : Program → List Put → (owner : ℕ) → List (Option ℤ) → Type 0
AreFieldLengths P puts owner xs = (index : ℕ) (c : ℤ) → (length_at xs index ≡ Some c) ↔ HoldsField P puts owner index c

-- those of so many classes, by number
pub record AreClassLengths (P : Program) (puts : List Put) (n : ℕ) (xss : List (List (Option ℤ))) : Type 0 where
  pub long : length xss ≡ n
  pub each : (owner : ℕ) (xs : List (Option ℤ)) → slice_get xss owner ≡ Some xs → AreFieldLengths P puts owner xs
