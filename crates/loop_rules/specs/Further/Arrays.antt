-- Fields that hold null or arrays of one length, by the instructions of the program that write them, and where they are read.
use Rattle.std.specs.Prelude.{◌≡◌, ◌↔◌, ◌⊎◌, ℕ, ℤ, pos, ◌<◌, true, List, length, Some, None, IsSome, slice_get, slice_index_or}
use Rattle.std.specs.Option.{IsSomeAnd}
use Rattle.std.specs.declared.option.Option.{Option}
use Rattle.bytecode_model.specs.declared.Value.TheVariants.{Null}
use Rattle.bytecode_model.specs.State.{Object}
use Rattle.bytecode_model.specs.Program.{Program, body_of, kind_of}
use Rattle.bytecode_model.specs.Effects.{has_class}
use Rattle.bytecode_model.specs.Rows as rows
use Rattle.code_lines.specs.Lines.{IsLine}
use Rattle.loop_rules.specs.Further.Known.{Known, PushesArray}
use Rattle.loop_rules.specs.Further.Fields.{IsReferenceType, PutOnlyArrays}
use Rattle.loop_rules.specs.Further.Found.{IsFollowing, AreKnownInts, AreKnownLengths, Table, only_constants}

-- ---- what puts give

-- control comes to the place from the line before it alone, and lines that end there push null or an array of so many elements
abbrev pub GivesArray : Program → Known → (method place n : ℕ) → Type 0
GivesArray P known m p n = IsFollowing P m p × (from : ℕ) × PushesArray P known m from p n

-- the instruction at the place writes the static field
abbrev pub WritesStatic : Program → (field : ℕ) → (method place : ℕ) → Type 0
WritesStatic P f m p = (next : ℕ) × IsLine P m p next (rows.PutStatic f)

-- it may write the instance field: the class of what it writes and the field's have a subclass in common
pub record WritesField (P : Program) (owner index m p : ℕ) : Type 0 where
  pub next : ℕ
  pub named : ℕ
  pub other : ℕ
  pub class : ℕ
  pub line : IsLine P m p next (rows.PutField named other index)
  pub of_owner : P.extends class owner ≡ true
  pub of_other : P.extends class other ≡ true

-- some instruction of the program does, and each that does puts null or an array of so many elements
pub record AllGive (P : Program) (known : Known) (Writes : (method place : ℕ) → Type 0) (n : ℕ) : Type 0 where
  pub method : ℕ
  pub place : ℕ
  pub writes : Writes method place
  pub each : (m p : ℕ) → Writes m p → GivesArray P known m p n

-- the static field begins with null, and only such arrays are put
pub record IsStaticArray (P : Program) (known : Known) (f n : ℕ) : Type 0 where
  pub first : slice_get P.first_statics f ≡ Some Null
  pub puts : AllGive P known (WritesStatic P f) n

-- the instance field is a reference, no object has it at the start, and only such arrays are put
pub record IsFieldArray (P : Program) (known : Known) (owner index n : ℕ) : Type 0 where
  pub reference : IsSomeAnd (slice_get (P.fields owner) index) IsReferenceType
  pub first : (p : ℕ) (o : Object) → slice_get P.first_objects p ≡ Some o → ¬ (has_class P (kind_of P o) owner ≡ true)
  pub puts : AllGive P known (WritesField P owner index) n

-- What is known of fields: these constants, and just the arrays of fields to which only arrays are put whose lengths are known by constants.
pub record IsKnownBy (P : Program) (constants : (field : ℕ) → Option ℤ) (known : Known) : Type 0 where
  pub constants_are : (f : ℕ) → known.constants f ≡ constants f
  pub statics_are : (f n : ℕ) → (known.statics f ≡ Some n) ↔ IsStaticArray P (only_constants constants) f n
  pub fields_are : (owner index n : ℕ) → (known.fields owner index ≡ Some n) ↔ IsFieldArray P (only_constants constants) owner index n

-- ---- where they are read

-- the instruction at the place reads a field that is known to hold null or an array of so many elements
abbrev pub ReadsArray : Program → Known → (method place n : ℕ) → Type 0
ReadsArray P known m p n =
    ((f : ℕ) × (next : ℕ) × IsLine P m p next (rows.GetStatic f) × (known.statics f ≡ Some n))
    ⊎ ((named : ℕ) × (owner : ℕ) × (index : ℕ) × (next : ℕ) × IsLine P m p next (rows.GetField named owner index) × (known.fields owner index ≡ Some n))

-- the number of a place
abbrev pub length_at : List (Option ℤ) → (place : ℕ) → Option ℤ
length_at xs p = slice_index_or xs p None

-- by place, just the lengths of the arrays of the fields that instructions of the method read
abbrev pub AreArraysRead : Program → Known → (method : ℕ) → List (Option ℤ) → Type 0
AreArraysRead P known m xs = (p : ℕ) (c : ℤ) → (length_at xs p ≡ Some c) ↔ ((n : ℕ) × (c ≡ pos n) × ReadsArray P known m p n)

-- a static field that is known to hold arrays is not known to hold an int
abbrev pub AreApart : Known → Type 0
AreApart known = (f n : ℕ) → known.statics f ≡ Some n → known.constants f ≡ None

-- ---- of all methods

-- what is found of each method with code
pub record AreTables (P : Program) (known : Known) (ts : List Table) : Type 0 where
  pub coded : (m : ℕ) → IsSome (body_of P m) ↔ (m < length ts)
  pub ints : (m : ℕ) (t : Table) → slice_get ts m ≡ Some t → AreKnownInts P known m t.ints
  pub lengths : (m : ℕ) (t : Table) → slice_get ts m ≡ Some t → AreKnownLengths P known m t.lengths

-- by method with code and by place, the lengths of the arrays of the fields that are read
pub record AreMethodArrays (P : Program) (known : Known) (xss : List (List (Option ℤ))) : Type 0 where
  pub coded : (m : ℕ) → IsSome (body_of P m) ↔ (m < length xss)
  pub each : (m : ℕ) (xs : List (Option ℤ)) → slice_get xss m ≡ Some xs → AreArraysRead P known m xs

-- ---- laws

-- what is so known keeps to what puts do
abbrev pub PutsKeepArrays : Type 0
PutsKeepArrays = (P : Program) (constants : (field : ℕ) → Option ℤ) (known : Known) → IsKnownBy P constants known → PutOnlyArrays P known
