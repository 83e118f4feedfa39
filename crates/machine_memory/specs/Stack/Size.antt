-- The on-chip memory as a list.
use Rattle.std.specs.Prelude.{◌≡◌, ℕ, ◌^◌, ◌<◌, ◌⊎◌, List, length, All}

-- the core is built with 256, 512 or 1,024 on-chip words
abbrev pub IsSize : ℕ → Type 0
IsSize n = (n ≡ 256) ⊎ (n ≡ 512) ⊎ (n ≡ 1024)

-- the list has n words of 32 bits
pub record HoldsWords (n : ℕ) (words : List ℕ) : Type 0 where
  pub count : length words ≡ n
  pub fit : All (λ w. w < 2 ^ 32) words
