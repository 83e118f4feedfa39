-- What code alone tells of an instruction's row: ints that are pushed, moved through local variables and compared (JVM Specification SE 8, 6.5).
use Rattle.std.specs.Prelude.{◌≡◌, Bool, ℤ, pos, [], ◌∷◌}
use Rattle.bytecode_model.specs.declared.Value.TheVariants.{Int}
use Rattle.bytecode_model.specs.Numbers.{is_equal, is_unequal, is_less, is_at_least, is_greater, is_at_most}
use Rattle.bytecode_model.specs.Rows as rows
use Rattle.bytecode_model.specs.Rows.{Row}
use Rattle.bytecode_model.specs.Types.{IntType, LongType, Numbers, References}
use Rattle.code_scan.specs.declared.rows.Comparison.{Comparison}
use Rattle.code_scan.specs.declared.rows.Comparison.TheVariants.{Equal, Unequal, Less, AtLeast, Greater, AtMost}
use Rattle.code_scan.specs.declared.rows.IntRow.{IntRow}
use Rattle.code_scan.specs.declared.rows.IntRow.TheVariants.{Push, PushEntry, Load, Store, StoreLong, StoreReference, Increment, BranchZero, BranchInts, Other}

-- the test of a comparison, by the second int and the first
abbrev pub test_of : Comparison → ℤ → ℤ → Bool
test_of Equal y x = is_equal y x
test_of Unequal y x = is_unequal y x
test_of Less y x = is_less y x
test_of AtLeast y x = is_at_least y x
test_of Greater y x = is_greater y x
test_of AtMost y x = is_at_most y x

-- the row pushes no int that stands in it, stores into no local variable, and neither loads, counts nor compares ints
abbrev pub IsOther : Row → Type 0
IsOther (rows.Push (Int c)) = ⊥
IsOther (rows.Load (Numbers IntType) k) = ⊥
IsOther (rows.Store sort k) = ⊥
IsOther (rows.Increment k n) = ⊥
IsOther (rows.Branch (IntType ∷ []) test offset) = ⊥
IsOther (rows.Branch (IntType ∷ IntType ∷ []) test offset) = ⊥
IsOther r = Unit {0}

-- What is told is so of the row. Of a constant of the pool it isn't told which one it is.
abbrev pub Tells : IntRow → Row → Type 0
Tells (Push n) (rows.Push (Int c)) = c ≡ n
Tells PushEntry (rows.Push v) = Unit {0}
Tells (Load k) (rows.Load (Numbers IntType) l) = l ≡ k
Tells (Store k) (rows.Store (Numbers IntType) l) = l ≡ k
Tells (StoreLong k) (rows.Store (Numbers LongType) l) = l ≡ k
Tells (StoreReference k) (rows.Store References l) = l ≡ k
Tells (Increment k n) (rows.Increment l s) = (l ≡ k) × (s ≡ n)
Tells (BranchZero c o) (rows.Branch (IntType ∷ []) test offset) = (test ≡ (λ x. test_of c (pos 0) x)) × (offset ≡ o)
Tells (BranchInts c o) (rows.Branch (IntType ∷ IntType ∷ []) test offset) = (test ≡ (λ y x. test_of c y x)) × (offset ≡ o)
Tells Other r = IsOther r
Tells t r = ⊥
