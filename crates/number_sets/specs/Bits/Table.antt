-- Rows of bits in words, each row as wide as the others.
use Rattle.std.specs.Prelude.{◌≡◌, ℕ, ◌+◌, ◌*◌, ◌≤◌, ◌⊎◌, ◌==◌, Bool, false, ◌&&◌, List, length, Option, Some}
use Rattle.std.specs.Map.{lookup}

-- how many words a row has, where the row of each pair starts, and the words
pub record BitTable : Type 0 where
  pub width : ℕ
  pub starts : List ((ℕ × ℕ) × ℕ)
  pub words : List ℕ

abbrev pub is_pair : ℕ × ℕ → ℕ × ℕ → Bool
is_pair p q = p.0 == q.0 && p.1 == q.1

-- where the row of this pair starts
abbrev pub start_of : BitTable → ℕ × ℕ → Option ℕ
start_of t p = lookup (is_pair p) t.starts

-- how many columns a row has
abbrev pub columns : BitTable → ℕ
columns t = 64 * t.width

-- each row lies within the words, and no two have a word in common
pub record AreApart (t : BitTable) : Type 0 where
  pub within : (p : ℕ × ℕ) (s : ℕ) → start_of t p ≡ Some s → s + t.width ≤ length t.words
  pub apart : (p q : ℕ × ℕ) (s r : ℕ) → start_of t p ≡ Some s → start_of t q ≡ Some r → is_pair p q ≡ false → (s + t.width ≤ r) ⊎ (r + t.width ≤ s)
