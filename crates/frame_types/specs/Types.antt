-- Verification types by names: JVM Specification SE 8, 4.10.1.2 and 4.10.1.4.
use Rattle.std.specs.Prelude.{ℕ, Bool, true, false, ◌&&◌, ◌==◌, if◌then◌else◌, List, sum_by, slice_index}
use Rattle.lists.specs.Numbers.{is_among}
use Rattle.opcodes.specs.Start.{starts_of}
use Rattle.frame_types.specs.declared.types.VarType.{VarType}
use Rattle.frame_types.specs.declared.types.VarType.TheVariants.{UninitializedThis, Uninitialized, Long}

abbrev pub is_long : VarType → Bool
is_long Long = true
is_long t = false

-- the words that a value takes
abbrev pub words_of : VarType → ℕ
words_of t = if is_long t then 2 else 1

abbrev pub stack_words : List VarType → ℕ
stack_words stack = sum_by words_of stack

abbrev pub is_this : VarType → Bool
is_this UninitializedThis = true
is_this t = false

-- an instruction of the code begins at the place
abbrev pub is_start : (code : List ℕ) → (place : ℕ) → Bool
is_start code place = is_among (starts_of code) place

-- it is `new` (187)
abbrev pub is_new : (code : List ℕ) → (place : ℕ) → Bool
is_new code place = is_start code place && slice_index code place == 187

-- what isn't initialised was made by a `new`
abbrev pub names_new : (code : List ℕ) → VarType → Bool
names_new code (Uninitialized place) = is_new code place
names_new code t = true
