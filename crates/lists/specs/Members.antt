-- What a list contains, item by item; lists of numbers that rise.
use Rattle.std.proofs.Common.{◌≡◌, ◌≢◌, ℕ, zero, suc, ◌<◌, ◌≤◌, ◌⊎◌, List, [], ◌∷◌, map, length, get_or, Contains, refl, sym, ap, ◌∙◌, subst, inl, inr, arith}
use Rattle.std.specs.List.Sorted.{IsStrictlyIncreasing}
use Rattle.std.proofs.lemmas.Bool.{cases_eq, cases_order}
use Rattle.std.proofs.lemmas.List.{get_or_default}
use Rattle.std.proofs.lemmas.List.Kept.{AllPairs-from_increasing}

-- ---- one item before others

pub heads : {X : Type 0} (a b : X) (xs ys : List X) → a ∷ xs ≡ b ∷ ys → a ≡ b
heads a b xs ys e = cc

pub tails : {X : Type 0} (a b : X) (xs ys : List X) → a ∷ xs ≡ b ∷ ys → xs ≡ ys
tails a b xs ys e = cc

pub at_head : {X : Type 0} (x : X) (xs : List X) → Contains (x ∷ xs) x
at_head x xs = (0, omega arith, refl)

pub in_tail : {X : Type 0} (x y : X) (xs : List X) → Contains xs y → Contains (x ∷ xs) y
in_tail x y xs c = let below = c.1 in (suc c.0, omega arith, c.2)

cases_at : {X : Type 0} (x y : X) (xs : List X) (k : ℕ) → k < length (x ∷ xs) → get_or (x ∷ xs) k y ≡ y → (x ≡ y) ⊎ Contains xs y
cases_at x y xs zero below at = inl at
cases_at x y xs (suc k) below at = inr (k, omega arith, at)

pub cons_cases : {X : Type 0} (x y : X) (xs : List X) → Contains (x ∷ xs) y → (x ≡ y) ⊎ Contains xs y
cons_cases x y xs c = cases_at x y xs c.0 c.1 c.2

pub nil_contains : {X : Type 0} (y : X) → Contains {X = X} [] y → ⊥
nil_contains y c = let below = c.1 in omega arith

pub has_or_not : (xs : List ℕ) (h : ℕ) → Contains xs h ⊎ (Contains xs h → ⊥)
has_or_not [] h = inr (λ c. nil_contains h c)
has_or_not (x ∷ xs) h =
    elim (cases_eq x h) [
      | inl same ↦ inl (let P : ℕ → Type 0 = λ y. Contains (x ∷ xs) y in subst P same (at_head x xs))
      | inr other ↦
          elim (has_or_not xs h) [
            | inl c ↦ inl (in_tail x h xs c)
            | inr never ↦ inr (λ c. elim (cons_cases x h xs c) [ inl same ↦ other same | inr there ↦ never there ])
          ]
    ]

pub map_contains : {X Y : Type 0} (f : X → Y) (xs : List X) (x : X) → Contains xs x → Contains (map f xs) (f x)
map_contains f [] x c = absurd (nil_contains x c)
map_contains f (y ∷ ys) x c =
    elim (cons_cases y x ys c) [
      | inl same ↦ let P : _ → Type 0 = λ z. Contains (map f (y ∷ ys)) (f z) in subst P same (at_head (f y) (map f ys))
      | inr there ↦ in_tail (f y) (f x) (map f ys) (map_contains f ys x there)
    ]

-- ---- where a number stands

pub place_of : (xs : List ℕ) (x : ℕ) → Contains xs x → (k : ℕ) × (k < length xs) × (get_or xs k 0 ≡ x)
place_of xs x c = (c.0, c.1, get_or_default xs c.0 0 x c.1 ∙ c.2)

pub contains_at : (xs : List ℕ) (k x : ℕ) → k < length xs → get_or xs k 0 ≡ x → Contains xs x
contains_at xs k x lt at = (k, lt, get_or_default xs k x 0 lt ∙ at)

-- ---- lists that rise

pub rising_pair : (xs : List ℕ) → IsStrictlyIncreasing xs → (i j : ℕ) → i < j → j < length xs → get_or xs i 0 < get_or xs j 0
rising_pair xs h i j lt below = AllPairs-from_increasing xs h i j 0 lt below

pub rising_apart : (xs : List ℕ) → IsStrictlyIncreasing xs → (i j : ℕ) → i < j → j < length xs → get_or xs i 0 ≢ get_or xs j 0
rising_apart xs rise i j lt below same = let up = AllPairs-from_increasing xs rise i j 0 lt below in omega arith

pub rising_all : (xs : List ℕ) → IsStrictlyIncreasing xs → (i j : ℕ) → i ≤ j → j < length xs → get_or xs i 0 ≤ get_or xs j 0
rising_all xs h i j le below =
    elim (cases_order i j) [
      | inl same ↦ let e = ap (λ (k : ℕ). get_or xs k 0) same in omega arith
      | inr apart ↦
          elim apart [
            | inl lt ↦ let p = rising_pair xs h i j lt below in omega arith
            | inr gt ↦ absurd (omega arith)
          ]
    ]
