-- Lists of numbers that rise, with one more behind.
use Rattle.std.proofs.Common.{◌≡◌, ℕ, suc, ◌+◌, ◌-◌, ◌<◌, List, [], ◌∷◌, ◌++◌, length, get_or, refl, sym, ◌∙◌, ap, subst, arith, Option, Some, inl, inr}
use Rattle.std.specs.Prelude.{slice_get}
use Rattle.std.specs.List.Sorted.{IsStrictlyIncreasing}
use Rattle.std.proofs.lemmas.Bool.{cases_lt}
use Rattle.std.proofs.lemmas.List.{length-append, get_or_append_left, get_or-append-add}
use Rattle.std.proofs.lemmas.Option.{slice_get-get_or}
use Rattle.certificates.specs.Loop.{IsAbove, last_of}

above_last : (xs : List ℕ) (x i : ℕ) → i + 1 ≡ length xs → IsAbove (last_of xs) x → get_or xs i 0 < x
above_last xs x i is a =
    let same : length xs - 1 ≡ i = omega arith in
    let there : last_of xs ≡ Some (get_or xs i 0) = ap (slice_get xs) same ∙ slice_get-get_or xs i 0 (omega arith) in
    subst (λ (o : Option ℕ). IsAbove o x) there a

pub at_end : (xs ys : List ℕ) (y i : ℕ) → i ≡ length xs → get_or (xs ++ y ∷ ys) i 0 ≡ y
at_end xs ys y i is = let same : i ≡ length xs + 0 = omega arith in ap (λ (k : ℕ). get_or (xs ++ y ∷ ys) k 0) same ∙ get_or-append-add xs (y ∷ ys) 0 0

pub rises_on : (xs : List ℕ) (x : ℕ) → IsStrictlyIncreasing xs → IsAbove (last_of xs) x → IsStrictlyIncreasing (xs ++ x ∷ [])
rises_on xs x h a k lt =
    let long = length-append xs (x ∷ []) in
    elim (cases_lt (k + 1) (length xs)) [
      | inl inside ↦
          let left = get_or_append_left xs (x ∷ []) 0 k (omega arith) in
          let right = get_or_append_left xs (x ∷ []) 0 (k + 1) inside in
          let p = h k inside in
          omega arith
      | inr last ↦
          let one : length (x ∷ []) ≡ 1 = refl in
          let is : k + 1 ≡ length xs = omega arith in
          let left = get_or_append_left xs (x ∷ []) 0 k (omega arith) in
          let right = at_end xs [] x (k + 1) is in
          let p = above_last xs x k is a in
          omega arith
    ]

-- the first of them rise
pub rises_before : (xs ys : List ℕ) → IsStrictlyIncreasing (xs ++ ys) → IsStrictlyIncreasing xs
rises_before xs ys h k lt =
    let long = length-append xs ys in
    let p = h k (omega arith) in
    let left = get_or_append_left xs ys 0 k (omega arith) in
    let right = get_or_append_left xs ys 0 (k + 1) lt in
    omega arith

-- the next is greater than the last of them
pub above_before : (xs ys : List ℕ) (y : ℕ) → IsStrictlyIncreasing (xs ++ y ∷ ys) → IsAbove (last_of xs) y
above_before [] ys y h = tt
above_before (x ∷ xs) ys y h =
    let long = length-append (x ∷ xs) (y ∷ ys) in
    let some : length (y ∷ ys) ≡ suc (length ys) = refl in
    let count : length (x ∷ xs) ≡ suc (length xs) = refl in
    let i : ℕ = length xs in
    let is : i + 1 ≡ length (x ∷ xs) = omega arith in
    let p = h i (omega arith) in
    let left = get_or_append_left (x ∷ xs) (y ∷ ys) 0 i (omega arith) in
    let right = at_end (x ∷ xs) ys y (i + 1) is in
    let lower : get_or (x ∷ xs) i 0 < y = omega arith in
    let same : length (x ∷ xs) - 1 ≡ i = omega arith in
    let there : last_of (x ∷ xs) ≡ Some (get_or (x ∷ xs) i 0) = ap (slice_get (x ∷ xs)) same ∙ slice_get-get_or (x ∷ xs) i 0 (omega arith) in
    subst (λ (o : Option ℕ). IsAbove o y) (sym there) lower
