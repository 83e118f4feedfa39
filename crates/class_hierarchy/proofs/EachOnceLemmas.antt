-- A list in which each number stands once and the same is found as in another: it is the other with each number once.
use Rattle.std.proofs.Common.{◌≡◌, ℕ, Bool, true, false, not, eqb, cond, List, [], ◌∷◌, map, Option, Some, None, refl, sym, ap, ap₂, ◌∙◌, subst}
use Rattle.std.specs.Prelude.{filter, nat_eq, if◌then◌else◌}
use Rattle.std.specs.Option.{option_or}
use Rattle.std.specs.List.{IsDistinct, AllByRecursion}
use Rattle.std.proofs.lemmas.Bool.{eqb-true, eq-eqb, false≢true}
use Rattle.lists.specs.Lists.{first_some}
use Rattle.lists.proofs.Lemmas.{none≢some, some_same}
use Rattle.lists.specs.Numbers.{IsSameSearch}
use Rattle.lists.proofs.Searching.{first_cons}
use Rattle.lists.proofs.Finding.{Find, Place}
use Rattle.class_hierarchy.specs.EachOnce.{each_once}

-- ---- one filter behind another

swap_case : (p q : ℕ → Bool) (x : ℕ) (xs : List ℕ) (a b : Bool) → p x ≡ a → q x ≡ b → filter p (filter q xs) ≡ filter q (filter p xs) → filter p (cond b (x ∷ filter q xs) (filter q xs)) ≡ filter q (cond a (x ∷ filter p xs) (filter p xs))
swap_case p q x xs true true e f h = ap (λ c. cond c (x ∷ filter p (filter q xs)) (filter p (filter q xs))) e ∙ (ap (λ zs. x ∷ zs) h ∙ sym (ap (λ c. cond c (x ∷ filter q (filter p xs)) (filter q (filter p xs))) f))
swap_case p q x xs true false e f h = h ∙ sym (ap (λ c. cond c (x ∷ filter q (filter p xs)) (filter q (filter p xs))) f)
swap_case p q x xs false true e f h = ap (λ c. cond c (x ∷ filter p (filter q xs)) (filter p (filter q xs))) e ∙ h
swap_case p q x xs false false e f h = h

filter_swap : (p q : ℕ → Bool) (xs : List ℕ) → filter p (filter q xs) ≡ filter q (filter p xs)
filter_swap p q [] = refl
filter_swap p q (x ∷ xs) = swap_case p q x xs (p x) (q x) refl refl (filter_swap p q xs)

-- the second filter keeps all that the first does
absorb_case : (p q : ℕ → Bool) → ((x : ℕ) → p x ≡ true → q x ≡ true) → (x : ℕ) (xs : List ℕ) (a b : Bool) → p x ≡ a → q x ≡ b → filter p (filter q xs) ≡ filter p xs → filter p (cond b (x ∷ filter q xs) (filter q xs)) ≡ cond a (x ∷ filter p xs) (filter p xs)
absorb_case p q w x xs true true e f h = ap (λ c. cond c (x ∷ filter p (filter q xs)) (filter p (filter q xs))) e ∙ ap (λ zs. x ∷ zs) h
absorb_case p q w x xs true false e f h = absurd (false≢true (sym f ∙ w x e))
absorb_case p q w x xs false true e f h = ap (λ c. cond c (x ∷ filter p (filter q xs)) (filter p (filter q xs))) e ∙ h
absorb_case p q w x xs false false e f h = h

filter_absorb : (p q : ℕ → Bool) → ((x : ℕ) → p x ≡ true → q x ≡ true) → (xs : List ℕ) → filter p (filter q xs) ≡ filter p xs
filter_absorb p q w [] = refl
filter_absorb p q w (x ∷ xs) = absorb_case p q w x xs (p x) (q x) refl refl (filter_absorb p q w xs)

-- ---- each number once

abbrev others : ℕ → ℕ → Bool
others x y = not (eqb x y)

-- what a test keeps isn't the number that it drops
apart : (p : ℕ → Bool) (x y : ℕ) (b : Bool) → p x ≡ false → p y ≡ true → eqb x y ≡ b → not b ≡ true
apart p x y true e f s = absurd (false≢true (sym e ∙ (ap p (eqb-true x y s) ∙ f)))
apart p x y false e f s = refl

once_case : (p : ℕ → Bool) (x : ℕ) (xs : List ℕ) (b : Bool) → p x ≡ b → filter p (each_once xs) ≡ each_once (filter p xs)
    → cond b (x ∷ filter p (filter (others x) (each_once xs))) (filter p (filter (others x) (each_once xs))) ≡ each_once (cond b (x ∷ filter p xs) (filter p xs))
once_case p x xs true e h = ap (λ zs. x ∷ zs) (filter_swap p (others x) (each_once xs) ∙ ap (filter (others x)) h)
once_case p x xs false e h = filter_absorb p (others x) (λ y f. apart p x y (eqb x y) e f refl) (each_once xs) ∙ h

filter-each_once : (p : ℕ → Bool) (xs : List ℕ) → filter p (each_once xs) ≡ each_once (filter p xs)
filter-each_once p [] = refl
filter-each_once p (x ∷ xs) = once_case p x xs (p x) refl (filter-each_once p xs)

-- ---- what is found beside a number

abbrev beside : ℕ → Find → Find
beside x find k = if eqb x k then None else find k

beside_here : (x : ℕ) (find : Find) (xs : List ℕ) → first_some (map (beside x find) (x ∷ xs)) ≡ first_some (map (beside x find) xs)
beside_here x find xs = ap (λ b. first_some ((if b then None else find x) ∷ map (beside x find) xs)) (eq-eqb x x refl)

-- in a list without it the same
beside_all : (x : ℕ) (find : Find) (xs : List ℕ) → AllByRecursion (λ y. nat_eq x y ≡ false) xs → map (beside x find) xs ≡ map find xs
beside_all x find [] h = refl
beside_all x find (y ∷ xs) h = ap₂ (λ o os. o ∷ os) (ap (λ b. if b then None else find y) h.0) (beside_all x find xs h.1)

filtered_case : (x : ℕ) (find : Find) (y : ℕ) (xs : List ℕ) (b : Bool) → first_some (map (beside x find) xs) ≡ first_some (map find (filter (others x) xs))
    → first_some ((if b then None else find y) ∷ map (beside x find) xs) ≡ first_some (map find (cond (not b) (y ∷ filter (others x) xs) (filter (others x) xs)))
filtered_case x find y xs true h = h
filtered_case x find y xs false h = first_cons (find y) (map (beside x find) xs) ∙ (ap (option_or (find y)) h ∙ sym (first_cons (find y) (map find (filter (others x) xs))))

beside_filtered : (x : ℕ) (find : Find) (xs : List ℕ) → first_some (map (beside x find) xs) ≡ first_some (map find (filter (others x) xs))
beside_filtered x find [] = refl
beside_filtered x find (y ∷ xs) = filtered_case x find y xs (eqb x y) (beside_filtered x find xs)

behind : (x : ℕ) (xs ys : List ℕ) → AllByRecursion (λ y. nat_eq x y ≡ false) xs → IsSameSearch (x ∷ xs) (x ∷ ys) → IsSameSearch xs (filter (others x) ys)
behind x xs ys d h find =
    sym (ap first_some (beside_all x find xs d)) ∙ (sym (beside_here x find xs) ∙ (h (beside x find) ∙ (beside_here x find ys ∙ beside_filtered x find ys)))

-- ---- the list is the other with each number once

abbrev found_at : Find
found_at k = Some (k, 0)

pub once_same : (xs ys : List ℕ) → IsDistinct nat_eq xs → IsSameSearch xs ys → xs ≡ each_once ys
unfolding IsDistinct
once_same [] [] d h = refl
once_same [] (y ∷ ys) d h = absurd (none≢some (y, 0) (h found_at))
once_same (x ∷ xs) [] d h = absurd (none≢some (x, 0) (sym (h found_at)))
once_same (x ∷ xs) (y ∷ ys) d h =
    let first_of : Place → ℕ = λ p. p.0 in
    let e : y ≡ x = ap first_of (some_same (y, 0) (x, 0) (sym (h found_at))) in
    let here : IsSameSearch (x ∷ xs) (x ∷ ys) = subst (λ (z : ℕ). IsSameSearch (x ∷ xs) (z ∷ ys)) e h in
    let rest : xs ≡ each_once (filter (others x) ys) = once_same xs (filter (others x) ys) d.1 (behind x xs ys d.0 here) in
    ap (λ zs. x ∷ zs) (rest ∙ sym (filter-each_once (others x) ys)) ∙ ap (λ (z : ℕ). z ∷ filter (others z) (each_once ys)) (sym e)
