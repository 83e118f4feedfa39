-- Rows of bits, one bit a class, by the symbols of the names and descriptors of members.
use Rattle.std.specs.Prelude.{◌≡◌, ℕ, true, false, List, Some, None, is_some}
use Rattle.number_sets.specs.Bits.Bits.{has, is_in}
use Rattle.number_sets.specs.Bits.Table.{BitTable, columns}
use Rattle.number_sets.specs.declared.bits.rows.Row.{Row}
use Rattle.class_pool.specs.declared.class.Member.{Member}
use Rattle.class_pool.specs.declared.class.ClassFile.{ClassFile}
use Rattle.class_lookup.specs.Parts.{Signature}
use Rattle.class_lookup.specs.Lookup.{declared}
use Rattle.class_lookup.specs.Symbols.{symbol}

-- all bits that were set are set
pub record HasMore (old new : BitTable) : Type 0 where
  pub wide : columns new ≡ columns old
  pub kept : (p : ℕ × ℕ) (c : ℕ) → has old p c ≡ true → has new p c ≡ true

-- where a class declares such a member, its bit is set in the row of the member's symbols
pub record AreMarked (members : ClassFile → List Member) (cs : List ClassFile) (m : BitTable) : Type 0 where
  pub each : (s : Signature) (a b c : ℕ) → symbol cs s.name ≡ Some a → symbol cs s.descriptor ≡ Some b → is_some (declared members cs s c) ≡ true
      → has m (a, b) c ≡ true

-- a row has a set bit for each class that declares a member of this name and descriptor
abbrev pub Tells : (members : ClassFile → List Member) → List ClassFile → (name descriptor : ℕ) → Row → Type 0
Tells members cs a b row = (s : Signature) (c : ℕ) → symbol cs s.name ≡ Some a → symbol cs s.descriptor ≡ Some b → is_in row c ≡ false
    → declared members cs s c ≡ None
