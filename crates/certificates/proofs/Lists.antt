-- Lists with one more behind.
use Rattle.std.proofs.Common.{◌≡◌, ℕ, ◌+◌, List, [], ◌∷◌, ◌++◌, map, length, get_or, refl, ◌∙◌, ap, subst, arith}
use Rattle.std.specs.Prelude.{All, AllPairs}
use Rattle.std.proofs.lemmas.List.{length-append, get_or_append_left, get_or-append-add}

pub at_end : {X : Type 0} (xs ys : List X) (y d : X) (i : ℕ) → i ≡ length xs → get_or (xs ++ y ∷ ys) i d ≡ y
at_end xs ys y d i is = let same : i ≡ length xs + 0 = omega arith in ap (λ (k : ℕ). get_or (xs ++ y ∷ ys) k d) same ∙ get_or-append-add xs (y ∷ ys) 0 d

pub all_before : {X : Type 0} (P : X → Type 0) (xs ys : List X) → All P (xs ++ ys) → All P xs
all_before P xs ys h k d lt = let long = length-append xs ys in subst P (get_or_append_left xs ys d k lt) (h k d (omega arith))

pub all_last : {X : Type 0} (P : X → Type 0) (xs : List X) (y : X) → All P (xs ++ y ∷ []) → P y
all_last P xs y h =
    let long = length-append xs (y ∷ []) in
    let one : length (y ∷ []) ≡ 1 = refl in
    subst P (at_end xs [] y y (length xs) refl) (h (length xs) y (omega arith))

pub pairs_before : {X : Type 0} (R : X → X → Type 0) (xs ys : List X) → AllPairs R (xs ++ ys) → AllPairs R xs
pairs_before R xs ys h i j d lt inside =
    let long = length-append xs ys in
    subst (λ (x : _). R x (get_or xs j d)) (get_or_append_left xs ys d i (omega arith))
    (subst (λ (y : _). R (get_or (xs ++ ys) i d) y) (get_or_append_left xs ys d j inside) (h i j d lt (omega arith)))

pub pairs_last : {X : Type 0} (R : X → X → Type 0) (xs : List X) (y : X) → AllPairs R (xs ++ y ∷ []) → All (λ x. R x y) xs
pairs_last R xs y h k d lt =
    let long = length-append xs (y ∷ []) in
    let one : length (y ∷ []) ≡ 1 = refl in
    subst (λ (x : _). R x y) (get_or_append_left xs (y ∷ []) d k lt)
    (subst (λ (z : _). R (get_or (xs ++ y ∷ []) k d) z) (at_end xs [] y d (length xs) refl) (h k (length xs) d lt (omega arith)))

pub map-push : {X Y : Type 0} (f : X → Y) (xs : List X) (x : X) → map f (xs ++ x ∷ []) ≡ map f xs ++ f x ∷ []
map-push f [] x = refl
map-push f (y ∷ xs) x = ap (λ zs. f y ∷ zs) (map-push f xs x)
