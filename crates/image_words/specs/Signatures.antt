-- The names and descriptors of methods, as pairs of symbols.
use Rattle.std.specs.Prelude.{◌≡◌, ℕ, Bool, true, false, ◌&&◌, ◌==◌, List, Option, Some, slice_get}
use Rattle.std.specs.Option.{option_map_or}
use Rattle.class_pool.specs.declared.class.ClassFile.{ClassFile}
use Rattle.lists.specs.Lists.{onto, index_of}
use Rattle.class_lookup.specs.Hierarchy.{is_interface}
use Rattle.class_lookup.specs.Lookup.{Place}
use Rattle.class_lookup.specs.Selection.{signature_at}
use Rattle.class_lookup.specs.Symbols.{symbol}

-- the symbols of the name and of the descriptor of a method
unfoldable pub symbols_at : List ClassFile → (method : Place) → Option (ℕ × ℕ)
symbols_at cs m = onto (signature_at cs m) (λ s. onto (symbol cs s.name) (λ a. onto (symbol cs s.descriptor) (λ b. Some (a, b))))

abbrev pub same_symbols : ℕ × ℕ → ℕ × ℕ → Bool
same_symbols k l = k.0 == l.0 && k.1 == l.1

-- there is such a method, and its name and its descriptor have these symbols
abbrev pub has_symbols : List ClassFile → ℕ × ℕ → (method : Place) → Bool
has_symbols cs k m = option_map_or (same_symbols k) (symbols_at cs m) false

-- the number of a name and a descriptor among these
abbrev pub number_of : List (ℕ × ℕ) → ℕ × ℕ → Option ℕ
number_of signatures k = index_of (same_symbols k) signatures

abbrev pub IsNumbered : List (ℕ × ℕ) → ℕ × ℕ → Type 0
IsNumbered signatures k = (n : ℕ) × (number_of signatures k ≡ Some n)

-- what had a number has it still
pub record KeepsNumbers (old new : List (ℕ × ℕ)) : Type 0 where
  pub kept : (k : ℕ × ℕ) (n : ℕ) → number_of old k ≡ Some n → number_of new k ≡ Some n

-- each method of an interface has its name and descriptor among them
pub record HasSignatures (cs : List ClassFile) (signatures : List (ℕ × ℕ)) : Type 0 where
  pub each : (m : Place) (k : ℕ × ℕ) → is_interface cs m.0 ≡ true → symbols_at cs m ≡ Some k → IsNumbered signatures k

-- for each name and descriptor that has a number, the cell of that number says which of these places is the first of such a method
pub record AreFirst (cs : List ClassFile) (signatures : List (ℕ × ℕ)) (cells : List (Option ℕ)) (places : List Place) : Type 0 where
  pub each : (k : ℕ × ℕ) (n : ℕ) → number_of signatures k ≡ Some n → slice_get cells n ≡ Some (index_of (has_symbols cs k) places)
