-- Fields that hold null or an array of one length throughout a program's runs, since each instruction that writes them puts such a one.
use Rattle.std.specs.Prelude.{◌≡◌, ℕ, true, Some, slice_get}
use Rattle.std.specs.Option.{IsSomeAnd}
use Rattle.bytecode_model.specs.Types.{Declared, Numeric, Reference}
use Rattle.bytecode_model.specs.Program.{Program}
use Rattle.bytecode_model.specs.Rows as rows
use Rattle.code_lines.specs.Lines.{IsLine, IsNamed}
use Rattle.loop_rules.specs.Further.Known.{Known, PushesArray}

-- the put at the place puts null or an array of so many elements: lines directly before it push one
abbrev pub PutsArray : Program → Known → (method place n : ℕ) → Type 0
PutsArray P known m p n = (from : ℕ) × PushesArray P known m from p n × (¬ IsNamed P m p)

abbrev pub IsReferenceType : Declared → Type 0
IsReferenceType (Numeric t) = ⊥
IsReferenceType (Reference k) = Unit {0}

-- Each instruction of the program that may write such a field puts such an array, whether control comes to it or not. An instance field may be written by
-- each put of a field with its index whose class has a subclass in common with the field's.
pub record PutOnlyArrays (P : Program) (known : Known) : Type 0 where
  pub statics : (f n m p next : ℕ) → known.statics f ≡ Some n → IsLine P m p next (rows.PutStatic f) → PutsArray P known m p n
  pub references : (owner index n : ℕ) → known.fields owner index ≡ Some n → IsSomeAnd (slice_get (P.fields owner) index) IsReferenceType
  pub fields : (named owner other index class n m p next : ℕ) → known.fields owner index ≡ Some n → IsLine P m p next (rows.PutField named other index)
      → P.extends class owner ≡ true → P.extends class other ≡ true → PutsArray P known m p n
