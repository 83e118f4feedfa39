-- What holds of numbers one after another.
use Rattle.std.proofs.Common.{ℕ, zero, suc, ◌+◌, ◌<◌, ◌≤◌, subst, inl, inr, arith}
use Rattle.std.proofs.lemmas.Bool.{cases_eq}

abbrev pub AllFrom : (P : ℕ → Type 0) → (first many : ℕ) → Type 0
AllFrom P first zero = Unit {0}
AllFrom P first (suc many) = P first × AllFrom P (suc first) many

pub each_from : (P : ℕ → Type 0) (first many : ℕ) → AllFrom P first many → (n : ℕ) → first ≤ n → n < first + many → P n
each_from P first zero all n le lt = absurd (omega arith)
each_from P first (suc many) all n le lt =
    elim (cases_eq first n) [
      | inl same ↦ subst P same all.0
      | inr other ↦ each_from P (suc first) many all.1 n (omega arith) (omega arith)
    ]

infixr 4 ◌&◌
pub ◌&◌ : {A B : Type 0} → A → B → A × B
a & b = (a, b)
