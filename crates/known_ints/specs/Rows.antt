-- What code alone tells of an instruction's row: references that are loaded, fields that are read, arrays, and ints that are computed (JVM
-- Specification SE 8, 6.5).
use Rattle.std.specs.Prelude.{◌≡◌, ℤ, [], ◌∷◌, Some}
use Rattle.std.specs.declared.option.Option.{Option}
use Rattle.std.specs.Int.{w32}
use Rattle.std.specs.Int.Bits.{bit_and, bit_or, bit_xor}
use Rattle.bytecode_model.specs.Numbers.{sum, difference, product, quotient, remainder, shifted_left, shifted_right, shifted_right_unsigned, bitwise}
use Rattle.bytecode_model.specs.Types.{IntType, References}
use Rattle.bytecode_model.specs.Rows as rows
use Rattle.bytecode_model.specs.Rows.{Row}
use Rattle.known_ints.specs.declared.rows.Arithmetic.{Arithmetic}
use Rattle.known_ints.specs.declared.rows.Arithmetic.TheVariants as does
use Rattle.known_ints.specs.declared.rows.ValueRow.{ValueRow}
use Rattle.known_ints.specs.declared.rows.ValueRow.TheVariants.{Push, LoadReference, ReadStatic, ReadField, Copy, Compute, NewArray, Length, StoreNumber}
use Rattle.known_ints.specs.declared.rows.ValueRow.TheVariants.{Other}

-- what is computed, of the second int and the first
abbrev pub computed_of : Arithmetic → ℤ → ℤ → Option ℤ
computed_of does.Sum y x = Some (sum y x)
computed_of does.Difference y x = Some (difference y x)
computed_of does.Product y x = Some (product y x)
computed_of does.Quotient y x = quotient y x
computed_of does.Remainder y x = remainder y x
computed_of does.ShiftLeft y x = Some (shifted_left 32 y x)
computed_of does.ShiftRight y x = Some (shifted_right 32 y x)
computed_of does.ShiftRightUnsigned y x = Some (shifted_right_unsigned w32 32 y x)
computed_of does.And y x = Some (bitwise w32 bit_and y x)
computed_of does.Or y x = Some (bitwise w32 bit_or y x)
computed_of does.ExclusiveOr y x = Some (bitwise w32 bit_xor y x)

-- the row is none of those that are told
abbrev pub IsOtherValue : Row → Type 0
IsOtherValue (rows.Push v) = ⊥
IsOtherValue (rows.Load References l) = ⊥
IsOtherValue (rows.GetStatic f) = ⊥
IsOtherValue (rows.GetField named owner index) = ⊥
IsOtherValue (rows.Shuffle rows.Copy rows.One rows.Zero) = ⊥
IsOtherValue (rows.Compute (IntType ∷ IntType ∷ []) IntType compute) = ⊥
IsOtherValue (rows.NewNumbers code) = ⊥
IsOtherValue (rows.NewReferences k) = ⊥
IsOtherValue rows.Length = ⊥
IsOtherValue (rows.StoreNumber t codes kept) = ⊥
IsOtherValue r = Unit {0}

-- what is told is so of the row
abbrev pub TellsValue : ValueRow → Row → Type 0
TellsValue Push (rows.Push v) = Unit {0}
TellsValue (LoadReference k) (rows.Load References l) = l ≡ k
TellsValue ReadStatic (rows.GetStatic f) = Unit {0}
TellsValue ReadField (rows.GetField named owner index) = Unit {0}
TellsValue Copy (rows.Shuffle rows.Copy rows.One rows.Zero) = Unit {0}
TellsValue (Compute a) (rows.Compute (IntType ∷ IntType ∷ []) IntType compute) = compute ≡ (λ y x. computed_of a y x)
TellsValue NewArray (rows.NewNumbers code) = Unit {0}
TellsValue NewArray (rows.NewReferences k) = Unit {0}
TellsValue Length rows.Length = Unit {0}
TellsValue StoreNumber (rows.StoreNumber t codes kept) = Unit {0}
TellsValue Other r = IsOtherValue r
TellsValue t r = ⊥
