-- The place that a jump goes to (JVM Specification SE 8, 6.5.goto).
use Rattle.std.proofs.Common.{◌≡◌, ℕ, suc, ◌+◌, ◌-◌, ◌%◌, ◌^◌, ◌<◌, Bool, true, false, cond, nat_lt, refl, ap, arith, Some}
use Rattle.std.specs.Prelude.{ℤ, pos, negsuc, ◌+ℤ◌}
use Rattle.std.specs.Int.{w16, w32, cast_signed}
use Rattle.std.proofs.lemmas.Int.{ints}
use mir.Val.{sel}
use Rattle.std.proofs.lemmas.Bool.{ltb-false}
use Rattle.jop_core.specs.Operations.{sign_extended16}
use Rattle.bytecode_model.specs.Lists.{natural}

-- from a natural number to the integer
pub natural_is : (z : ℤ) (t : ℕ) → natural z ≡ Some t → z ≡ pos t
natural_is (pos n) t e = let q : n ≡ t = cc in ap pos q
natural_is (negsuc n) t e = absurd (cc)

-- an offset of 16 bits, and one of 32
pub near_place : (pc v t : ℕ) → v < 2 ^ 16 → t < 2 ^ 16 → pos pc +ℤ cast_signed w16 v ≡ pos t → (pc + 1 + (2 ^ 16 - 1) + v) % 2 ^ 16 ≡ t
near_place pc v t small inside e = by (nat_lt v (2 ^ 15)) refl e
  where
    by : (b : Bool) → nat_lt v (2 ^ 15) ≡ b → pos pc +ℤ sel b (pos v) (negsuc (2 ^ 16 - suc v)) ≡ pos t → (pc + 1 + (2 ^ 16 - 1) + v) % 2 ^ 16 ≡ t
    by true low f = omega (arith, ints)
    by false low f = let high = ltb-false v (2 ^ 15) low in omega (arith, ints)

pub far_place : (pc v t : ℕ) → v < 2 ^ 32 → t < 2 ^ 16 → pos pc +ℤ cast_signed w32 v ≡ pos t → (pc + 1 + (2 ^ 16 - 1) + v) % 2 ^ 16 ≡ t
far_place pc v t small inside e = by (nat_lt v (2 ^ 31)) refl e
  where
    by : (b : Bool) → nat_lt v (2 ^ 31) ≡ b → pos pc +ℤ sel b (pos v) (negsuc (2 ^ 32 - suc v)) ≡ pos t → (pc + 1 + (2 ^ 16 - 1) + v) % 2 ^ 16 ≡ t
    by true low f = omega (arith, ints)
    by false low f = let high = ltb-false v (2 ^ 31) low in omega (arith, ints)

-- the low bits of a short that was extended with its sign
pub short_left : (v : ℕ) → v < 2 ^ 16 → sign_extended16 v % 2 ^ 16 ≡ v
short_left v small = by (nat_lt (v % 2 ^ 16) (2 ^ 15))
  where
    by : (b : Bool) → cond b (v % 2 ^ 16) (v % 2 ^ 16 + (2 ^ 32 - 2 ^ 16)) % 2 ^ 16 ≡ v
    by true = omega arith
    by false = omega arith
