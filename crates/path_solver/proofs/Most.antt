-- The greatest of the numbers that some nodes have.
use Rattle.std.proofs.Common.{◌≡◌, ℕ, max, List, [], ◌∷◌, ◌++◌, Contains, ap, ◌∙◌, inl, inr, arith}
use Rattle.std.proofs.lemmas.Bool.{cases_lt}
use Rattle.std.proofs.lemmas.List.Elements.{Contains-append_left, Contains-push, Contains-push_cases}
use Rattle.path_solver.specs.Distances.{IsMost}

pub most_push : (f : ℕ → ℕ) (us : List ℕ) (u m n : ℕ) → n ≡ max (f u) m → IsMost f us m → IsMost f (us ++ u ∷ []) n
most_push f us u m n is h = record {
  above = λ x has.
      elim (Contains-push_cases us u x has) [
        | inl old ↦ let a = h.above x old in omega arith
        | inr same ↦ let a = ap f same in omega arith
      ];
  attained =
      elim (cases_lt (f u) m) [
        | inl less ↦
            let e : m ≡ n = omega arith in
            elim h.attained [
              | inl none ↦ let z = none.1 in absurd (omega arith)
              | inr some ↦ inr (some.0, Contains-append_left us (u ∷ []) some.0 some.1, some.2 ∙ e)
            ]
        | inr more ↦ inr (u, Contains-push us u, (let e : f u ≡ n = omega arith in e))
      ];
}

-- numbers that are the same at the nodes have the same greatest one
pub most_same : (f g : ℕ → ℕ) (us : List ℕ) (m : ℕ) → ((u : ℕ) → Contains us u → g u ≡ f u) → IsMost f us m → IsMost g us m
most_same f g us m same h = record {
  above = λ u has. let a = h.above u has in let e = same u has in omega arith;
  attained = elim h.attained [ inl none ↦ inl none | inr some ↦ inr (some.0, some.1, same some.0 some.1 ∙ some.2) ];
}
