-- Bounds that are compared.
use Rattle.std.specs.Prelude.{ℕ, ◌≤◌, Option, Some, None}

-- neither is a number, or the first is at most the second
abbrev pub IsAtMost : (bound other : Option ℕ) → Type 0
IsAtMost None None = Unit {0}
IsAtMost (Some a) (Some b) = a ≤ b
IsAtMost None (Some b) = ⊥
IsAtMost (Some a) None = ⊥
