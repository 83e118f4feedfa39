-- The least number with a property is one.
use Rattle.std.proofs.Common.{◌≡◌, ℕ, ◌<◌, ◌⊎◌, Some, inl, inr, arith}
use Rattle.std.proofs.lemmas.Bool.{cases_lt}
use Rattle.section_check.specs.Least.{IsLeast}

compared : (u v : ℕ) → (u < v) ⊎ ((v < u) ⊎ (u ≡ v))
compared u v =
    elim (cases_lt u v) [
      | inl less ↦ inl less
      | inr not_less ↦ elim (cases_lt v u) [ inl more ↦ inr (inl more) | inr not_more ↦ inr (inr (omega arith)) ]
    ]

pub one_least : (K : ℕ → Type 0) (a b : ℕ) → IsLeast K (Some a) → IsLeast K (Some b) → a ≡ b
one_least K a b first second =
    elim (compared a b) [
      | inl less ↦ absurd (second.1 a less first.0)
      | inr other ↦ elim other [ inl more ↦ absurd (first.1 b more second.0) | inr same ↦ same ]
    ]
