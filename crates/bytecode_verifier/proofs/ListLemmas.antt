-- Lists.
use Rattle.std.proofs.Common.{◌≡◌, ℕ, ◌+◌, ◌<◌, List, [], ◌∷◌, ◌++◌, length, map, reverse, drop, get_or, drop-cons, add-one, append_assoc, sym, ap, ◌∙◌}
use Rattle.std.proofs.lemmas.List.{map-append}
use Rattle.verifier_types.proofs.ListLemmas.{map_reverse}

-- the same seen in two ways, from the end
pub reversed_same : {A B C : Type 0} (f : A → C) (g : B → C) (xs : List A) (ys : List B) → map f xs ≡ map g ys → map f (reverse xs) ≡ map g (reverse ys)
reversed_same f g xs ys e = map_reverse f xs ∙ (ap reverse e ∙ sym (map_reverse g ys))

-- one more is seen as the next
pub pushed : {A B C : Type 0} (f : A → C) (g : B → C) (xs : List A) (x : A) (ys : List B) (i : ℕ) (d : B) → i < length ys → f x ≡ g (get_or ys i d)
    → map f (xs ++ x ∷ []) ++ map g (drop (i + 1) ys) ≡ map f xs ++ map g (drop i ys)
pushed f g xs x ys i d h e =
    ap (λ l. l ++ map g (drop (i + 1) ys)) (map-append f xs (x ∷ []))
    ∙ (append_assoc (map f xs) (f x ∷ []) (map g (drop (i + 1) ys))
    ∙ ap (λ l. map f xs ++ l) (ap (λ y. y ∷ map g (drop (i + 1) ys)) e ∙ sym (ap (map g) (drop-cons ys i d h ∙ ap (λ n. get_or ys i d ∷ drop n ys) (sym (add-one i))))))

-- the same, seen by way of another
pub pushed_twice : {A B C D : Type 0} (f : A → C) (g : D → C) (h : B → D) (xs : List A) (x : A) (ys : List B) (i : ℕ) (d : B) → i < length ys → f x ≡ g (h (get_or ys i d))
    → map f (xs ++ x ∷ []) ++ map g (map h (drop (i + 1) ys)) ≡ map f xs ++ map g (map h (drop i ys))
pushed_twice f g h xs x ys i d lt e =
    ap (λ l. l ++ map g (map h (drop (i + 1) ys))) (map-append f xs (x ∷ []))
    ∙ (append_assoc (map f xs) (f x ∷ []) (map g (map h (drop (i + 1) ys)))
    ∙ ap (λ l. map f xs ++ l) (ap (λ y. y ∷ map g (map h (drop (i + 1) ys))) e ∙ sym (ap (λ l. map g (map h l)) (drop-cons ys i d lt ∙ ap (λ n. get_or ys i d ∷ drop n ys) (sym (add-one i))))))
