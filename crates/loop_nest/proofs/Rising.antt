-- Lists of numbers that rise.
use Rattle.std.proofs.Common.{◌≡◌, ℕ, ◌+◌, ◌<◌, List, [], ◌∷◌, ◌++◌, length, get_or, All, inl, inr, arith}
use Rattle.std.specs.List.Sorted.{IsStrictlyIncreasing}
use Rattle.std.proofs.lemmas.Bool.{cases_order, cases_lt}
use Rattle.std.proofs.lemmas.List.{get_or_append_left, get_or_push, length_push}
use Rattle.std.proofs.lemmas.List.Elements.{All-get_or}
use Rattle.lists.specs.Members.{rising_pair}

-- the same number stands at one place alone
pub same_place : (xs : List ℕ) → IsStrictlyIncreasing xs → (i j : ℕ) → i < length xs → j < length xs → get_or xs i 0 ≡ get_or xs j 0 → i ≡ j
same_place xs h i j li lj e =
    elim (cases_order i j) [
      | inl same ↦ same
      | inr apart ↦
          elim apart [
            | inl lt ↦ let p = rising_pair xs h i j lt lj in absurd (omega arith)
            | inr gt ↦ let p = rising_pair xs h j i gt li in absurd (omega arith)
          ]
    ]

pub rising_push : (xs : List ℕ) (x : ℕ) → IsStrictlyIncreasing xs → All (λ y. y < x) xs → IsStrictlyIncreasing (xs ++ x ∷ [])
rising_push xs x h below k lt =
    let long = length_push xs x in
    elim (cases_lt (k + 1) (length xs)) [
      | inl inside ↦
          let a = get_or_append_left xs (x ∷ []) 0 k (omega arith) in
          let b = get_or_append_left xs (x ∷ []) 0 (k + 1) inside in
          let p = h k inside in
          omega arith
      | inr last ↦
          let a = get_or_append_left xs (x ∷ []) 0 k (omega arith) in
          let b = get_or_push xs x 0 (k + 1) (omega arith) in
          let p = All-get_or (λ (y : ℕ). y < x) xs k 0 (omega arith) below in
          omega arith
    ]
