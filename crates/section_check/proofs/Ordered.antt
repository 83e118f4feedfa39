-- Edges in their order.
use Rattle.std.proofs.Common.{◌≡◌, ℕ, zero, suc, ◌+◌, ◌-◌, ◌<◌, List, length, get_or, Contains, sym, ◌∙◌, subst, inl, inr, arith}
use Rattle.std.specs.List.{AllAdjacentBelow}
use Rattle.std.specs.List.Sorted.{IsNonDecreasingBy}
use Rattle.std.proofs.lemmas.Bool.{cases_lt}
use Rattle.std.proofs.lemmas.List.{get_or_default}
use Rattle.std.proofs.lemmas.List.Sorted.{IsNonDecreasingBy-from_all_adjacent}
use Rattle.loop_nest.specs.Digraph.{IsBefore}

abbrev pub AreOrdered : List (ℕ × ℕ) → Type 0
AreOrdered es = AllAdjacentBelow IsBefore es (length es)

pub sources_rise : (es : List (ℕ × ℕ)) → AreOrdered es → IsNonDecreasingBy (λ (e : ℕ × ℕ). e.0) es
sources_rise es h =
    IsNonDecreasingBy-from_all_adjacent (λ (e : ℕ × ℕ). e.0) es (λ k d lt. elim (h k d lt) [ inl less ↦ omega arith | inr same ↦ let e = same.0 in omega arith ])

before_trans : (a b c : ℕ × ℕ) → IsBefore a b → IsBefore b c → IsBefore a c
before_trans a b c (inl x) (inl y) = inl (omega arith)
before_trans a b c (inl x) (inr y) = let e = y.0 in inl (omega arith)
before_trans a b c (inr x) (inl y) = let e = x.0 in inl (omega arith)
before_trans a b c (inr x) (inr y) = let e = y.1 in let f = x.1 in inr (x.0 ∙ y.0, omega arith)

before_never : (a : ℕ × ℕ) → IsBefore a a → ⊥
before_never a (inl x) = omega arith
before_never a (inr x) = let e = x.1 in omega arith

further : (es : List (ℕ × ℕ)) (d : ℕ × ℕ) → AreOrdered es → (i k : ℕ) → i + suc k < length es → IsBefore (get_or es i d) (get_or es (i + suc k) d)
further es d h i zero lt =
    let e : i + 1 ≡ i + suc zero = omega arith in
    let P : ℕ → Type 0 = λ j. IsBefore (get_or es i d) (get_or es j d) in
    subst P e (h i d (omega arith))
further es d h i (suc k) lt =
    let e : i + suc k + 1 ≡ i + suc (suc k) = omega arith in
    let P : ℕ → Type 0 = λ j. IsBefore (get_or es i d) (get_or es j d) in
    subst P e (before_trans (get_or es i d) (get_or es (i + suc k) d) (get_or es (i + suc k + 1) d) (further es d h i k (omega arith)) (h (i + suc k) d (omega arith)))

-- an edge that stands before edge i has an earlier place
pub earlier : (es : List (ℕ × ℕ)) (d : ℕ × ℕ) → AreOrdered es → (i j : ℕ) → i < length es → j < length es → IsBefore (get_or es j d) (get_or es i d) → j < i
earlier es d h i j li lj before =
    elim (cases_lt j i) [
      | inl less ↦ less
      | inr ge ↦
          elim (cases_lt i j) [
            | inl more ↦
                let e : i + suc (j - i - 1) ≡ j = omega arith in
                let P : ℕ → Type 0 = λ k. IsBefore (get_or es i d) (get_or es k d) in
                let later = subst P e (further es d h i (j - i - 1) (omega arith)) in
                absurd (before_never (get_or es i d) (before_trans (get_or es i d) (get_or es j d) (get_or es i d) later before))
            | inr le ↦
                let e : j ≡ i = omega arith in
                let P : ℕ → Type 0 = λ k. IsBefore (get_or es k d) (get_or es i d) in
                absurd (before_never (get_or es i d) (subst P e before))
          ]
    ]

-- an edge of the graph stands in its list
pub edge_place : (gs es : List (ℕ × ℕ)) (u v : ℕ) → es ≡ gs → Contains gs (u, v) → (j : ℕ) × (j < length es) × (get_or es j (0, 0) ≡ (u, v))
edge_place gs es u v is has =
    let P : List (ℕ × ℕ) → Type 0 = λ zs. Contains zs (u, v) in
    let c = subst P (sym is) has in
    (c.0, c.1, get_or_default es c.0 (0, 0) (u, v) c.1 ∙ c.2)
