-- What entries pay without facts, loop by loop.
use Rattle.std.proofs.Common.{◌≡◌, ℕ, ◌+◌, ◌*◌, ◌^◌, ◌<◌, zero, suc, List, [], ◌∷◌, ◌++◌, length, get_or, Option, None, unwrap_or, refl, sym, ap, ◌∙◌, subst, inl, inr, arith}
use Rattle.std.proofs.lemmas.Bool.{cases_lt}
use Rattle.std.proofs.lemmas.List.{get_or_push}
use Rattle.section_check.specs.Section.{CertifiedLoop}
use Rattle.section_check.specs.Placing.{IsEntryAt}
use Rattle.section_check.proofs.LeastLemmas.{same_at}

-- so far for the first n loops
pub record PlainBelow (ls : List CertifiedLoop) (bounds : List ℕ) (loads : List (Option ℕ)) (n : ℕ) (fees : List ℕ) : Type 0 where
  pub long : length fees ≡ n
  pub each : (i : ℕ) (l : CertifiedLoop) → i < n → IsEntryAt ls i l → get_or fees i 0 ≡ get_or bounds i 0 * l.iteration_cost + unwrap_or (get_or loads i None) 0
  pub few : (i : ℕ) → get_or fees i 0 < 2 ^ 97

pub plain_none : (ls : List CertifiedLoop) (bounds : List ℕ) (loads : List (Option ℕ)) → PlainBelow ls bounds loads 0 []
plain_none ls bounds loads = record { long = refl; each = λ i l lt at. absurd (omega arith); few = λ i. omega arith }

earlier_same : (xs : List ℕ) (y i : ℕ) → i < length xs → get_or (xs ++ y ∷ []) i 0 ≡ get_or xs i 0
earlier_same [] y i lt = absurd (omega arith)
earlier_same (x ∷ xs) y zero lt = refl
earlier_same (x ∷ xs) y (suc i) lt = earlier_same xs y i (omega arith)

all_below : (xs : List ℕ) (y m : ℕ) → y < m → ((i : ℕ) → get_or xs i 0 < m) → (i : ℕ) → get_or (xs ++ y ∷ []) i 0 < m
all_below [] y m small few zero = small
all_below [] y m small few (suc i) = omega arith
all_below (x ∷ xs) y m small few zero = few 0
all_below (x ∷ xs) y m small few (suc i) = all_below xs y m small (λ k. few (suc k)) i

length-push : (xs : List ℕ) (y : ℕ) → length (xs ++ y ∷ []) ≡ length xs + 1
length-push [] y = refl
length-push (x ∷ xs) y = omega (arith, length-push xs y)

pub plain_more : (ls : List CertifiedLoop) (bounds : List ℕ) (loads : List (Option ℕ)) (n : ℕ) (fees : List ℕ) (x : ℕ) (l : CertifiedLoop) → l ≡ get_or ls n l → PlainBelow ls bounds loads n fees
    → x ≡ get_or bounds n 0 * l.iteration_cost + unwrap_or (get_or loads n None) 0 → x < 2 ^ 97 → PlainBelow ls bounds loads (n + 1) (fees ++ x ∷ [])
plain_more ls bounds loads n fees x l is before value small = record {
  long = let long = before.long in omega (arith, length-push fees x);
  each = λ i k lt at.
      let long = before.long in
      elim (cases_lt i n) [
        | inl less ↦ earlier_same fees x i (omega arith) ∙ before.each i k less at
        | inr ge ↦
            let same : n ≡ i = omega arith in
            let T : ℕ → Type 0 = λ m. IsEntryAt ls m k in
            let one : l ≡ k = same_at ls n k l (subst T (sym same) at) is in
            let P : ℕ → Type 0 = λ m. get_or (fees ++ x ∷ []) m 0 ≡ get_or bounds m 0 * k.iteration_cost + unwrap_or (get_or loads m None) 0 in
            subst P same (get_or_push fees x 0 n long ∙ value ∙ ap (λ (z : CertifiedLoop). get_or bounds n 0 * z.iteration_cost + unwrap_or (get_or loads n None) 0) one)
      ];
  few = all_below fees x (2 ^ 97) small before.few;
}
