-- Lists side by side, from their ends.
use Rattle.std.proofs.Common.{◌≡◌, suc, Bool, true, false, ◌&&◌, List, [], ◌∷◌, ◌++◌, length, map, inl, inr, reverse, refl, sym, ap, ◌∙◌, arith}
use Rattle.std.proofs.lemmas.Bool.{cases_eq}
use Rattle.std.proofs.lemmas.List.{length-reverse, length-map, map-append}
use Rattle.std.proofs.lemmas.Grind.{reverse_onto}
use Rattle.bytecode_typing.specs.Tests.{all_two}

and_true : (x y : Bool) → (x && (y && true)) ≡ (y && x)
and_true true true = refl
and_true true false = refl
and_true false true = refl
and_true false false = refl

and_assoc : (x y z : Bool) → (x && (y && z)) ≡ ((x && y) && z)
and_assoc true y z = refl
and_assoc false y z = refl

pub all_two_append : {A B : Type 0} (test : A → B → Bool) (xs zs : List A) (ys ws : List B) → length xs ≡ length ys
    → all_two test (xs ++ zs) (ys ++ ws) ≡ (all_two test xs ys && all_two test zs ws)
all_two_append test [] zs [] ws e = refl
all_two_append test [] zs (y ∷ ys) ws e = absurd (omega (arith, e))
all_two_append test (x ∷ xs) zs [] ws e = absurd (omega (arith, e))
all_two_append test (x ∷ xs) zs (y ∷ ys) ws e =
    ap (λ b. test x y && b) (all_two_append test xs zs ys ws (omega (arith, e))) ∙ and_assoc (test x y) (all_two test xs ys) (all_two test zs ws)

and_false : (x : Bool) → (x && false) ≡ false
and_false true = refl
and_false false = refl

-- of unequal length
pub all_two_unequal : {A B : Type 0} (test : A → B → Bool) (xs : List A) (ys : List B) → (length xs ≡ length ys → ⊥) → all_two test xs ys ≡ false
all_two_unequal test [] [] h = absurd (h refl)
all_two_unequal test [] (y ∷ ys) h = refl
all_two_unequal test (x ∷ xs) [] h = refl
all_two_unequal test (x ∷ xs) (y ∷ ys) h = ap (λ b. test x y && b) (all_two_unequal test xs ys (λ e. h (ap suc e))) ∙ and_false (test x y)

pub reverse_cons : {A : Type 0} (x : A) (xs : List A) → reverse (x ∷ xs) ≡ reverse xs ++ x ∷ []
reverse_cons x xs = reverse_onto xs x []

-- each from its end
pub all_two_reverse : {A B : Type 0} (test : A → B → Bool) (xs : List A) (ys : List B) → length xs ≡ length ys → all_two test (reverse xs) (reverse ys) ≡ all_two test xs ys
all_two_reverse test [] [] e = refl
all_two_reverse test [] (y ∷ ys) e = absurd (omega (arith, e))
all_two_reverse test (x ∷ xs) [] e = absurd (omega (arith, e))
all_two_reverse test (x ∷ xs) (y ∷ ys) e =
    let shorter : length xs ≡ length ys = omega (arith, e) in
    let lengths : length (reverse xs) ≡ length (reverse ys) = length-reverse xs ∙ (shorter ∙ sym (length-reverse ys)) in
    ap (λ l. all_two test l (reverse (y ∷ ys))) (reverse_cons x xs)
    ∙ (ap (λ l. all_two test (reverse xs ++ x ∷ []) l) (reverse_cons y ys)
    ∙ (all_two_append test (reverse xs) (x ∷ []) (reverse ys) (y ∷ []) lengths
    ∙ (and_true (all_two test (reverse xs) (reverse ys)) (test x y) ∙ ap (λ b. test x y && b) (all_two_reverse test xs ys shorter))))

pub seen_unequal : {X A : Type 0} (f : X → A) (test : A → A → Bool) (xs ys : List X) → (length xs ≡ length ys → ⊥) → all_two test (map f xs) (map f ys) ≡ false
seen_unequal f test xs ys h = all_two_unequal test (map f xs) (map f ys) (λ e. h (omega (arith, e, length-map xs f, length-map ys f)))

-- through what is seen of the items
pub map_reverse : {A B : Type 0} (f : A → B) (xs : List A) → map f (reverse xs) ≡ reverse (map f xs)
map_reverse f [] = refl
map_reverse f (x ∷ xs) = ap (map f) (reverse_cons x xs) ∙ (map-append f (reverse xs) (x ∷ []) ∙ (ap (λ l. l ++ f x ∷ []) (map_reverse f xs) ∙ sym (reverse_cons (f x) (map f xs))))

pub all_two_seen : {X A : Type 0} (f : X → A) (test : A → A → Bool) (xs ys : List X) → length xs ≡ length ys
    → all_two test (map f (reverse xs)) (map f (reverse ys)) ≡ all_two test (map f xs) (map f ys)
all_two_seen f test xs ys e =
    ap (λ l. all_two test l (map f (reverse ys))) (map_reverse f xs)
    ∙ (ap (λ l. all_two test (reverse (map f xs)) l) (map_reverse f ys) ∙ all_two_reverse test (map f xs) (map f ys) (length-map xs f ∙ (e ∙ sym (length-map ys f))))

-- of whatever length
pub all_two_reversed : {X A : Type 0} (f : X → A) (test : A → A → Bool) (xs ys : List X) → all_two test (map f (reverse xs)) (map f (reverse ys)) ≡ all_two test (map f xs) (map f ys)
all_two_reversed f test xs ys = elim (cases_eq (length xs) (length ys)) [
  | inl e ↦ all_two_seen f test xs ys e
  | inr h ↦ seen_unequal f test (reverse xs) (reverse ys) (λ e. h (omega (arith, e, length-reverse xs, length-reverse ys))) ∙ sym (seen_unequal f test xs ys h)
]
