-- What the instructions of a method do with ints and arrays, as far as it tells what is pushed.
use Rattle.std.specs.Prelude.{◌≡◌, ◌⊎◌, ℕ, suc, ℤ, pos, [], ◌∷◌, List, Some, slice_index_or}
use Rattle.bytecode_model.specs.declared.Value.{Value}
use Rattle.bytecode_model.specs.Program.{Program}
use Rattle.bytecode_model.specs.Rows as rows
use Rattle.bytecode_model.specs.Rows.{Row}
use Rattle.bytecode_model.specs.Types.{NumberType, IntType, LongType, Kind, Numbers, References}
use Rattle.code_lines.specs.Lines.{IsLine}
use Rattle.loop_rules.specs.Further.Known.{Known}
use Rattle.loop_rules.specs.Further.Arrays.{ReadsArray}
use Rattle.loop_rules.specs.Sites.{IsPushAt, IsReadAt}
use Rattle.known_ints.specs.declared.parts.Part.{Part}
use Rattle.known_ints.specs.declared.parts.Part.TheVariants as does
use Rattle.known_ints.specs.Rows.{computed_of}

-- the instruction at the place is of this row
abbrev pub HasRow : Program → (method place : ℕ) → Row → Type 0
HasRow P m p r = (next : ℕ) × IsLine P m p next r

-- the row is none of those that are told apart; of a read of a field its constant is told, or the length of the arrays that it holds
abbrev pub IsOtherPart : Row → Type 0
IsOtherPart (rows.Push v) = ⊥
IsOtherPart (rows.Load (Numbers IntType) k) = ⊥
IsOtherPart (rows.Load References k) = ⊥
IsOtherPart (rows.Store sort k) = ⊥
IsOtherPart (rows.Increment k n) = ⊥
IsOtherPart (rows.Shuffle rows.Copy rows.One rows.Zero) = ⊥
IsOtherPart (rows.Compute (IntType ∷ IntType ∷ []) IntType compute) = ⊥
IsOtherPart (rows.NewNumbers code) = ⊥
IsOtherPart (rows.NewReferences k) = ⊥
IsOtherPart rows.Length = ⊥
IsOtherPart (rows.StoreNumber t codes kept) = ⊥
IsOtherPart r = Unit {0}

-- a constant that is no int
pub record IsConstantAt (P : Program) (m p : ℕ) : Type 0 where
  pub value : Value
  pub push : HasRow P m p (rows.Push value)
  pub no_int : (c : ℤ) → ¬ IsPushAt P m p c

pub record StoresNumberAt (P : Program) (m p : ℕ) : Type 0 where
  pub type : NumberType
  pub codes : List ℕ
  pub kept : ℤ → ℤ
  pub store : HasRow P m p (rows.StoreNumber type codes kept)

-- it reads a static field that is known to hold null or arrays of so many elements
pub record ReadsStaticArray (P : Program) (known : Known) (m p : ℕ) (c : ℤ) : Type 0 where
  pub elements : ℕ
  pub is : c ≡ pos elements
  pub field : ℕ
  pub read : HasRow P m p (rows.GetStatic field)
  pub holds : known.statics field ≡ Some elements

-- so a field of an object
pub record ReadsFieldArray (P : Program) (known : Known) (m p : ℕ) (c : ℤ) : Type 0 where
  pub elements : ℕ
  pub is : c ≡ pos elements
  pub named : ℕ
  pub owner : ℕ
  pub index : ℕ
  pub read : HasRow P m p (rows.GetField named owner index)
  pub holds : known.fields owner index ≡ Some elements

-- there is no instruction, or it is none of those that are told apart
pub record IsOtherAt (P : Program) (known : Known) (m p : ℕ) : Type 0 where
  pub no_field : (c : ℤ) → ¬ IsReadAt P known.constants m p c
  pub no_array : (n : ℕ) → ¬ ReadsArray P known m p n
  pub other : (next : ℕ) (r : Row) → IsLine P m p next r → IsOtherPart r

-- it is what the instruction at the place does
abbrev pub IsPart : Program → Known → (method place : ℕ) → Part → Type 0
IsPart P known m p (does.Int c) = IsPushAt P m p c
IsPart P known m p does.Constant = IsConstantAt P m p
IsPart P known m p (does.Field c) = IsReadAt P known.constants m p c
IsPart P known m p (does.StaticArray c) = ReadsStaticArray P known m p c
IsPart P known m p (does.FieldArray c) = ReadsFieldArray P known m p c
IsPart P known m p (does.Load k) = HasRow P m p (rows.Load (Numbers IntType) k)
IsPart P known m p (does.LoadReference k) = HasRow P m p (rows.Load References k)
IsPart P known m p (does.Store k) = HasRow P m p (rows.Store (Numbers IntType) k)
IsPart P known m p (does.StoreReference k) = HasRow P m p (rows.Store References k)
IsPart P known m p (does.StoreLong k) = HasRow P m p (rows.Store (Numbers LongType) k)
IsPart P known m p (does.Increment k) = (n : ℤ) × HasRow P m p (rows.Increment k n)
IsPart P known m p does.Copy = HasRow P m p (rows.Shuffle rows.Copy rows.One rows.Zero)
IsPart P known m p (does.Compute a) = HasRow P m p (rows.Compute (IntType ∷ IntType ∷ []) IntType (λ y x. computed_of a y x))
IsPart P known m p does.NewArray = ((code : ℕ) × HasRow P m p (rows.NewNumbers code)) ⊎ ((k : Kind) × HasRow P m p (rows.NewReferences k))
IsPart P known m p does.Length = HasRow P m p rows.Length
IsPart P known m p does.StoreNumber = StoresNumberAt P m p
IsPart P known m p does.Other = IsOtherAt P known m p

abbrev pub part_at : List Part → (place : ℕ) → Part
part_at parts p = slice_index_or parts p does.Other

-- so at each place
abbrev pub AreParts : Program → Known → (method : ℕ) → List Part → Type 0
AreParts P known m parts = (p : ℕ) → IsPart P known m p (part_at parts p)

-- the local variables that an instruction writes that does so; a long takes two (2.6.1)
abbrev pub written : Part → List ℕ
written (does.Store k) = k ∷ []
written (does.StoreReference k) = k ∷ []
written (does.Increment k) = k ∷ []
written (does.StoreLong k) = k ∷ suc k ∷ []
written part = []
