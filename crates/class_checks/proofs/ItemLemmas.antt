-- Tests over the types of a method.
use Rattle.std.proofs.Common.{◌≡◌, Bool, true, false, ◌||◌, List, [], ◌∷◌, ◌++◌, refl, ap, ◌∙◌}
use Rattle.std.specs.List.{list_any}

pub any_of_both : {A : Type 0} (p : A → Bool) (xs ys : List A) → list_any p (xs ++ ys) ≡ (list_any p xs || list_any p ys)
any_of_both p [] ys = refl
any_of_both p (x ∷ xs) ys = ap (λ b. p x || b) (any_of_both p xs ys) ∙ assoc (p x) (list_any p xs) (list_any p ys)
  where
    assoc : (a b c : Bool) → (a || (b || c)) ≡ ((a || b) || c)
    assoc true b c = refl
    assoc false b c = refl
