-- Types of local variables in whose place another type is put.
-- For contracts within this crate alone: no public contract's meaning rests on this file.
use Rattle.std.specs.Prelude.{◌≡◌, ℕ, List, slice_get}
use Rattle.std.specs.Option.{option_map}
use Rattle.bytecode_typing.specs.Types.{VarType, substituted}

-- the type is put in the place of `old` in the local variable of this index, if it is there; no other changes
pub record IsSubstitutedAt (index : ℕ) (old new : VarType) (before after : List VarType) : Type 0 where
  pub here : slice_get after index ≡ option_map (substituted old new) (slice_get before index)
  pub others : (i : ℕ) → (i ≡ index → ⊥) → slice_get after i ≡ slice_get before i
