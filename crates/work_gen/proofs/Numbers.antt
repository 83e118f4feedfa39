-- The numbers from 1 on, one after another.
use Rattle.std.proofs.Common.{◌≡◌, ℕ, zero, suc, ◌+◌, ◌-◌, ◌≤◌, Bool, List, [], ◌∷◌, ◌++◌, map, sym, ap, ◌∙◌, arith, add-zero}
use Rattle.std.specs.Prelude.{filter}
use Rattle.std.specs.List.{flat_map, range_with_len}
use Rattle.std.proofs.lemmas.List.{map-append}
use Rattle.std.proofs.lemmas.List.Elements.{filter-append}
use Rattle.lists.proofs.FirstLemmas.{flat_map-more, flat_map-append}

pub range-suc : (a n : ℕ) → range_with_len a (suc n) ≡ range_with_len a n ++ (a + n) ∷ []
range-suc a zero = ap (λ (x : ℕ). x ∷ []) (sym (add-zero a))
range-suc a (suc n) =
    let e : a + 1 + n ≡ a + suc n = omega arith in
    ap (λ (xs : List ℕ). a ∷ xs) (range-suc (a + 1) n ∙ ap (λ (x : ℕ). range_with_len (a + 1) n ++ x ∷ []) e)

-- up to and with a number
pub range_next : (k : ℕ) → 1 ≤ k → range_with_len 1 (k + 1 - 1) ≡ range_with_len 1 (k - 1) ++ k ∷ []
range_next k some =
    let e : k + 1 - 1 ≡ suc (k - 1) = omega arith in
    let f : 1 + (k - 1) ≡ k = omega arith in
    ap (range_with_len 1) e ∙ (range-suc 1 (k - 1) ∙ ap (λ (x : ℕ). range_with_len 1 (k - 1) ++ x ∷ []) f)

pub map_next : {X : Type 0} (f : ℕ → X) (k : ℕ) → 1 ≤ k → map f (range_with_len 1 (k + 1 - 1)) ≡ map f (range_with_len 1 (k - 1)) ++ f k ∷ []
map_next f k some = ap (map f) (range_next k some) ∙ map-append f (range_with_len 1 (k - 1)) (k ∷ [])

pub flat_next : {X : Type 0} (f : ℕ → List X) (k : ℕ) → 1 ≤ k → flat_map f (range_with_len 1 (k + 1 - 1)) ≡ flat_map f (range_with_len 1 (k - 1)) ++ f k
flat_next f k some = ap (flat_map f) (range_next k some) ∙ flat_map-more f (range_with_len 1 (k - 1)) k

pub filtered_next : {X : Type 0} (f : ℕ → List X) (p : ℕ → Bool) (k : ℕ) → 1 ≤ k → flat_map f (filter p (range_with_len 1 (k + 1 - 1))) ≡ flat_map f (filter p (range_with_len 1 (k - 1))) ++ flat_map f (filter p (k ∷ []))
filtered_next f p k some =
    ap (λ (ks : List ℕ). flat_map f (filter p ks)) (range_next k some)
    ∙ (ap (flat_map f) (filter-append p (range_with_len 1 (k - 1)) (k ∷ [])) ∙ flat_map-append f (filter p (range_with_len 1 (k - 1))) (filter p (k ∷ [])))
