-- Numbers that rise, and what a search finds among them.
use Rattle.std.proofs.Common.{◌≡◌, ℕ, suc, ◌<◌, ◌≤◌, Bool, true, false, ◌||◌, eqb, List, [], ◌∷◌, length, get_or, Contains, Result, Ok, Err, is_ok, MatchResult, refl, sym, inl, inr, arith}
use Rattle.std.proofs.lemmas.Bool.{cases_lt, eq-eqb, ne_eqb, eqb-true}
use Rattle.std.proofs.lemmas.List.Folds.{list_any_at}
use Rattle.lists.specs.Numbers.{is_among}

none_among : (xs : List ℕ) (x : ℕ) → ((k : ℕ) → k < length xs → get_or xs k 0 ≡ x → ⊥) → is_among xs x ≡ false
none_among [] x never = refl
none_among (y ∷ ys) x never = rw (ne_eqb y x (never 0 (omega arith))) (none_among ys x (λ k lt. never (suc k) (omega arith)))

-- the answer of a binary search
pub told : (xs : List ℕ) (x : ℕ) (r : Result ℕ ℕ) → MatchResult r (λ i. (i < length xs) × (get_or xs i 0 ≡ x)) (λ i. (i ≤ length xs) × ((k : ℕ) → k < i → get_or xs k 0 < x) × ((k : ℕ) → i ≤ k → k < length xs → x < get_or xs k 0))
    → is_ok r ≡ is_among xs x
told xs x (Ok i) h = sym (list_any_at (λ (k : ℕ). eqb k x) xs i 0 h.0 (eq-eqb (get_or xs i 0) x h.1))
told xs x (Err i) h =
    sym (none_among xs x (λ k lt same.
    elim (cases_lt k i) [
      | inl low ↦ let p = h.1 k low in absurd (omega arith)
      | inr high ↦ let p = h.2 k high lt in absurd (omega arith)
    ]))

head_or_tail : (y x : ℕ) (ys : List ℕ) (b : Bool) → eqb y x ≡ b → (b || is_among ys x) ≡ true → (is_among ys x ≡ true → Contains ys x) → Contains (y ∷ ys) x
head_or_tail y x ys true e h later = (0, omega arith, eqb-true y x e)
head_or_tail y x ys false e h later = let at = later h in (suc at.0, (let lt = at.1 in omega arith), at.2)

pub among_contains : (xs : List ℕ) (x : ℕ) → is_among xs x ≡ true → Contains xs x
among_contains [] x h = absurd cc
among_contains (y ∷ ys) x h = head_or_tail y x ys (eqb y x) refl h (among_contains ys x)
