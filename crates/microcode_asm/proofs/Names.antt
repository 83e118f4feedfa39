-- The names of the operations.
use Rattle.std.proofs.Common.{◌≡◌, ℕ, ◌<◌, Bool, List, [], length, Some, refl, arith, sym}
use Rattle.std.specs.List.{position}
use Rattle.std.proofs.lemmas.List.Quantifiers.{position-Some}
use Rattle.microcode_asm.specs.Statements.{operation_names}

pub name_count : length operation_names ≡ 48
unfolding operation_names
name_count = refl

pub name_place : (test : List ℕ → Bool) (place : ℕ) → Some place ≡ position test operation_names → place < 48
name_place test place e = omega (arith, name_count, (position-Some test operation_names place [] (sym e)).0)
