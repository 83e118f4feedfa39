-- The elements of lists of numbers that rise.
use Rattle.std.proofs.Common.{◌≡◌, ℕ, zero, suc, ◌<◌, ◌≤◌, ◌⊎◌, eqb, List, [], ◌∷◌, length, get_or, Contains, sym, ◌∙◌, subst, inl, inr, arith}
use Rattle.std.specs.List.{IsDistinct}
use Rattle.std.specs.List.Sorted.{IsStrictlyIncreasing}
use Rattle.std.proofs.lemmas.Bool.{ne_eqb, eqb-true}
use Rattle.std.proofs.lemmas.Cmp.{nat_eq_equiv}
use Rattle.std.proofs.lemmas.List.{get_or_default}
use Rattle.std.proofs.lemmas.List.Kept.{AllPairs-from_increasing}
use Rattle.std.proofs.lemmas.Map.Keys.{IsDistinct-from_apart}
use Rattle.std.proofs.lemmas.Map.Made.{length-le_from_is_member}
use Rattle.std.proofs.lemmas.Map.Views.{Contains-from_any, list_any-from_Contains}
use Rattle.lists.specs.Members.{at_head, in_tail, cons_cases, nil_contains, has_or_not}
use Rattle.section_index.specs.Crossing.{IsWithin}

-- either each number is in the other list, or one is missing there
pub within_or_not : (xs ys : List ℕ) → IsWithin xs ys ⊎ ((x : ℕ) × Contains xs x × (Contains ys x → ⊥))
within_or_not [] ys = inl (λ x c. absurd (nil_contains x c))
within_or_not (x ∷ xs) ys =
    elim (has_or_not ys x) [
      | inr never ↦ inr (x, at_head x xs, never)
      | inl here ↦
          elim (within_or_not xs ys) [
            | inr r ↦ inr (r.0, in_tail x r.0 xs r.1, r.2)
            | inl all ↦ inl (λ y c. let P : ℕ → Type 0 = λ z. Contains ys z in elim (cons_cases x y xs c) [ inl same ↦ subst P same here | inr there ↦ all y there ])
          ]
    ]

distinct : (xs : List ℕ) → IsStrictlyIncreasing xs → IsDistinct eqb xs
distinct xs rise =
    IsDistinct-from_apart eqb xs (λ i j d lt below. ne_eqb (get_or xs i d) (get_or xs j d) (λ same. let up = AllPairs-from_increasing xs rise i j d lt below in omega arith))

few_within : (xs ys : List ℕ) → IsDistinct eqb xs → IsWithin xs ys → length xs ≤ length ys
few_within xs ys apart within = length-le_from_is_member nat_eq_equiv xs ys apart (λ q has. list_any-from_Contains nat_eq_equiv q ys (within q (Contains-from_any eqb-true q xs has)))

distinct_cons : (y : ℕ) (xs : List ℕ) → IsStrictlyIncreasing xs → (Contains xs y → ⊥) → IsDistinct eqb (y ∷ xs)
distinct_cons y xs rise out =
    IsDistinct-from_apart eqb (y ∷ xs) (apart y xs rise out) where
      apart : (y : ℕ) (xs : List ℕ) → IsStrictlyIncreasing xs → (Contains xs y → ⊥) → (i j d : ℕ) → i < j → j < length (y ∷ xs) → eqb (get_or (y ∷ xs) i d) (get_or (y ∷ xs) j d) ≡ eqb 0 1
      apart y xs rise out i zero d lt below = absurd (omega arith)
      apart y xs rise out zero (suc j) d lt below =
          let short : j < length xs = omega arith in
          ne_eqb y (get_or xs j d) (λ same. out (j, short, get_or_default xs j y d short ∙ sym same))
      apart y xs rise out (suc i) (suc j) d lt below = ne_eqb (get_or xs i d) (get_or xs j d) (λ same. let up = AllPairs-from_increasing xs rise i j d (omega arith) (omega arith) in omega arith)

-- a list within another that has one number more is shorter
pub fewer_within : (xs ys : List ℕ) (y : ℕ) → IsStrictlyIncreasing xs → IsWithin xs ys → Contains ys y → (Contains xs y → ⊥) → length xs < length ys
fewer_within xs ys y rise within has out =
    let P : ℕ → Type 0 = λ z. Contains ys z in
    let few = few_within (y ∷ xs) ys (distinct_cons y xs rise out) (λ x c. elim (cons_cases y x xs c) [ inl same ↦ subst P same has | inr there ↦ within x there ]) in
    omega arith
