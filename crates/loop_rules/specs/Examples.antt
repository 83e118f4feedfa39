-- Worked examples of values that are tested.
use Rattle.std.specs.Prelude.{ℕ, ℤ, pos, negsuc, Bool}
use Rattle.bytecode_model.specs.Numbers.{is_equal, is_at_least, is_greater}
use Rattle.loop_rules.specs.Values.{IsFirstOut}

-- no value is the first that leaves the loop
abbrev pub NoneLeaves : (first s : ℤ) → (ℤ → Bool) → Type 0
NoneLeaves first s out = (n : ℕ) → ¬ IsFirstOut first s out n

pub record WorkedExamples : Type 0 where
  -- for (i = 0; i < 10; i++)
  pub up_to_ten : IsFirstOut (pos 0) (pos 1) (λ value. is_at_least (pos 10) value) 10
  -- for (i = 10; i != 0; i -= 3) passes 0
  pub passes_zero : NoneLeaves (pos 10) (negsuc 2) (λ value. is_equal (pos 0) value)
  -- for (i = 2147483646; i <= 2147483647; i++) has no greater int to come to
  pub past_the_greatest : NoneLeaves (pos 2147483646) (pos 1) (λ value. is_greater (pos 2147483647) value)
  -- i = 0; do { i++; } while (i < 3); the values from 1 on are tested
  pub do_while : IsFirstOut (pos 1) (pos 1) (λ value. is_at_least (pos 3) value) 2
  -- for (i = 7; i < 3; i++), left at once
  pub at_once : IsFirstOut (pos 7) (pos 1) (λ value. is_at_least (pos 3) value) 0
