-- The values that a local variable takes, from a first one on by a step.
use Rattle.std.specs.Prelude.{◌≡◌, ℕ, ℤ, pos, ◌+ℤ◌, ◌*ℤ◌, ◌<◌, ◌≤◌, Bool, true, false, FitsSigned}
use Rattle.std.specs.Int.{w32}

-- value number k
abbrev pub value_at : (first s : ℤ) → ℕ → ℤ
value_at first s k = first +ℤ (pos k *ℤ s)

-- value number n is the first one that leaves the loop, and it and all before it are ints
pub record IsFirstOut (first s : ℤ) (out : ℤ → Bool) (n : ℕ) : Type 0 where
  pub ints : (k : ℕ) → k ≤ n → FitsSigned w32 (value_at first s k)
  pub leaves : out (value_at first s n) ≡ true
  pub stays : (k : ℕ) → k < n → out (value_at first s k) ≡ false
