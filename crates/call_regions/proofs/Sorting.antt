-- Numbers that were sorted, and answers that may be errors.
use Rattle.std.proofs.Common.{◌≡◌, ℕ, List, Result, Ok, Err, Option, Some, None, IfOk, IfErr, IfNone, eqb, ◌∙◌, sym, inl, inr}
use Rattle.std.specs.List.Sorted.{IsStrictlyIncreasing, IsPermutation, IsSorted}
use Rattle.std.specs.Ordering.{nat_cmp}
use Rattle.std.proofs.lemmas.Bool.Decides.{Decides-eqb}
use Rattle.std.proofs.lemmas.List.Sorted.{IsNonDecreasingBy-from_sort}
use Rattle.std.proofs.lemmas.Map.Keys.{IsDistinct-IsPermutation, IsStrictlyIncreasing-from_distinct}
use Rattle.std.proofs.lemmas.Map.Made.{IsDistinct-from_AllPairs}
use Rattle.std.proofs.lemmas.Bool.{cases_eq, eq-eqb, ne_eqb}
use Rattle.method_cache.specs.Regions.Region.{AreDistinct}

eqb-flip : (a b : ℕ) → eqb a b ≡ eqb b a
eqb-flip a b =
    elim (cases_eq a b) [
      | inl same ↦ eq-eqb a b same ∙ sym (eq-eqb b a (sym same))
      | inr other ↦ ne_eqb a b other ∙ sym (ne_eqb b a (λ e. other (sym e)))
    ]

-- numbers that differ rise when they are sorted
pub rises : (xs ys : List ℕ) → AreDistinct xs → IsPermutation xs ys → IsSorted nat_cmp ys → IsStrictlyIncreasing ys
rises xs ys apart moved sorted =
    IsStrictlyIncreasing-from_distinct ys (IsNonDecreasingBy-from_sort (λ (x : ℕ). x) ys sorted)
    (IsDistinct-IsPermutation eqb eqb-flip xs ys moved (IsDistinct-from_AllPairs Decides-eqb xs apart))

pub if_ok : {T E : Type 0} (r : Result T E) (P Q : T → Type 0) → ((x : T) → P x → Q x) → IfOk r P → IfOk r Q
if_ok (Ok x) P Q f h = f x h
if_ok (Err e) P Q f h = tt

pub if_err : {T E : Type 0} (r : Result T E) (P Q : E → Type 0) → ((e : E) → P e → Q e) → IfErr r P → IfErr r Q
if_err (Ok x) P Q f h = tt
if_err (Err e) P Q f h = f e h

pub if_none : {T : Type 0} (r : Option T) (P Q : Type 0) → (P → Q) → IfNone r P → IfNone r Q
if_none None P Q f h = f h
if_none (Some x) P Q f h = tt
