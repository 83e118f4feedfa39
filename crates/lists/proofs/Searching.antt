-- The first of several partial results.
use Rattle.std.proofs.Common.{◌≡◌, ℕ, true, eqb, List, [], ◌∷◌, ◌++◌, map, Option, Some, None, refl, sym, ap, ap₂, ◌∙◌}
use Rattle.std.specs.Option.{option_or}
use Rattle.std.specs.List.{flat_map}
use Rattle.std.proofs.lemmas.List.{map-append}
use Rattle.std.proofs.lemmas.Bool.{or_left, or_right, eq-eqb}
use Rattle.lists.specs.Lists.{first_some}
use Rattle.lists.proofs.Lemmas.{none≢some}
use Rattle.lists.specs.Numbers.{is_among}

-- ---- the first that is there

pub first_cons : {A : Type 0} (o : Option A) (os : List (Option A)) → first_some (o ∷ os) ≡ option_or o (first_some os)
first_cons None os = refl
first_cons (Some x) os = refl

pub or_assoc : {A : Type 0} (x y z : Option A) → option_or (option_or x y) z ≡ option_or x (option_or y z)
or_assoc None y z = refl
or_assoc (Some x) y z = refl

pub first_append : {A : Type 0} (xs ys : List (Option A)) → first_some (xs ++ ys) ≡ option_or (first_some xs) (first_some ys)
first_append [] ys = refl
first_append (x ∷ xs) ys =
    first_cons x (xs ++ ys) ∙ (ap (option_or x) (first_append xs ys) ∙ (sym (or_assoc x (first_some xs) (first_some ys)) ∙ ap (λ o. option_or o (first_some ys)) (sym (first_cons x xs))))

-- the first in parts one behind another is the first of the parts' firsts
pub first_flat : {X Y A : Type 0} (h : Y → Option A) (f : X → List Y) (xs : List X) → first_some (map h (flat_map f xs)) ≡ first_some (map (λ x. first_some (map h (f x))) xs)
first_flat h f [] = refl
first_flat h f (x ∷ xs) =
    ap first_some (map-append h (f x) (flat_map f xs)) ∙ (first_append (map h (f x)) (map h (flat_map f xs))
    ∙ (ap (option_or (first_some (map h (f x)))) (first_flat h f xs) ∙ sym (first_cons (first_some (map h (f x))) (map (λ y. first_some (map h (f y))) xs))))

pub map_same : {X Y : Type 0} (f g : X → Y) (xs : List X) → ((x : X) → f x ≡ g x) → map f xs ≡ map g xs
map_same f g [] h = refl
map_same f g (x ∷ xs) h = ap₂ (λ a b. a ∷ b) (h x) (map_same f g xs h)

-- where the first was found
first_case : {A : Type 0} (h : ℕ → Option A) (x : ℕ) (xs : List ℕ) (y : A) (o : Option A) → h x ≡ o → ((first_some (map h xs) ≡ Some y) → (z : ℕ) × (is_among xs z ≡ true) × (h z ≡ Some y)) → option_or o (first_some (map h xs)) ≡ Some y → (z : ℕ) × (is_among (x ∷ xs) z ≡ true) × (h z ≡ Some y)
first_case h x xs y None s later e = let r = later e in (r.0, or_right (eqb x r.0) (is_among xs r.0) r.1, r.2)
first_case h x xs y (Some z) s later e = (x, or_left (eqb x x) (is_among xs x) (eq-eqb x x refl), s ∙ e)

pub first_found : {A : Type 0} (h : ℕ → Option A) (xs : List ℕ) (y : A) → first_some (map h xs) ≡ Some y → (x : ℕ) × (is_among xs x ≡ true) × (h x ≡ Some y)
first_found h [] y e = absurd (none≢some y e)
first_found h (x ∷ xs) y e = first_case h x xs y (h x) refl (first_found h xs y) (sym (first_cons (h x) (map h xs)) ∙ e)
