-- The local variables of the frames of a StackMapTable, as lists of types that the frames share: JVM Specification SE 8, 4.7.4 and 4.10.1.4.
-- For contracts within this crate alone: no public contract's meaning rests on this file.
use Rattle.std.specs.Prelude.{◌≡◌, ℕ, ◌+◌, ◌≤◌, List, [], ◌∷◌, ◌++◌, length, map, Option, Some, None, slice_get}
use Rattle.bytecode_model.specs.Slots.{spread, padded}
use Rattle.class_pool.specs.declared.class.ClassFile.{ClassFile}
use Rattle.frame_types.specs.declared.types.VarType as names
use Rattle.bytecode_typing.specs.Types.{VarType, Top, is_long_type}
use Rattle.verifier_types.specs.Locals.{LocalTable, filled}
use Rattle.bytecode_verifier.specs.declared.names.Current.{Current}
use Rattle.bytecode_verifier.specs.Named.{type_by}

-- the list of this number is this one, and stays so where others are added behind
abbrev pub IsListed : LocalTable → (number : ℕ) → List VarType → Type 0
IsListed t n types = (more : List (List VarType)) → slice_get (t.lists ++ more) n ≡ Some types

-- so is the list of this number, if these types have room
abbrev pub IsListOf : LocalTable → (number : Option ℕ) → (types : Option (List VarType)) → Type 0
IsListOf t None types = types ≡ None
IsListOf t (Some n) types = (list : List VarType) × (types ≡ Some list) × IsListed t n list

-- by words: a long one is followed by Top
abbrev pub words_of : List VarType → List VarType
words_of types = spread is_long_type Top types

-- the index of the first word of each, the first of all being this
abbrev pub starts_from : (index : ℕ) → List VarType → List ℕ
starts_from n [] = []
starts_from n (t ∷ ts) = n ∷ starts_from (n + length (words_of (t ∷ []))) ts

-- the code has local variables of these types, of which a long one is one type
pub record HasLocals (t : LocalTable) (c : Current) (types : List VarType) : Type 0 where
  pub starts : c.starts.items ≡ starts_from 0 types
  pub words : c.words ≡ length (words_of types)
  pub fits : length (words_of types) ≤ t.max_locals
  pub list : IsListed t c.list (filled t.max_locals (words_of types))

-- if they have room
abbrev pub HasLocalsIfRoom : LocalTable → Option Current → List VarType → Type 0
HasLocalsIfRoom t None types = padded Top t.max_locals (words_of types) ≡ None
HasLocalsIfRoom t (Some c) types = HasLocals t c types

-- the types by names as the code has them
abbrev pub types_by : List ClassFile → List names.VarType → List VarType
types_by cs types = map (type_by cs) types
