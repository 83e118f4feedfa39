-- Classes by name, one after another.
use Rattle.std.proofs.Common.{◌≡◌, ℕ, ◌+◌, ◌<◌, List, [], ◌∷◌, ◌++◌, map, take, get_or, Option, Some, None, Bor, length, refl, sym, ap, ap₂, ◌∙◌}
use Rattle.std.specs.Option.{option_copied}
use Rattle.std.specs.List.{filter_map, cons_option}
use Rattle.std.proofs.lemmas.List.{map-append}
use Rattle.std.proofs.lemmas.List.Elements.{filter_map-append}
use Rattle.std.proofs.lemmas.Grind.{take_at_read}
pub use Rattle.lists.proofs.Lookups.{named, text_back, lookup_append, copied_none, copied_some, copied_is}

-- one more class
pub next_map : {X Y : Type 0} (f : X → Y) (xs : List X) (i : ℕ) (x : X) (ys : List Y) (y : Y) → i < length xs → x ≡ get_or xs i x → ys ≡ map f (take i xs) → y ≡ f x → ys ++ y ∷ [] ≡ map f (take (i + 1) xs)
next_map f xs i x ys y lt is h e =
    ap₂ (λ a b. a ++ b ∷ []) h e
    ∙ (sym (map-append f (take i xs) (x ∷ [])) ∙ ap (map f) (ap (λ z. take i xs ++ z ∷ []) is ∙ sym (take_at_read xs i x lt).1))

-- one more index, of which a class may be found
pub next_found : {Y : Type 0} (f : List ℕ → Option Y) (g : ℕ → List ℕ) (xs : List ℕ) (i : ℕ) (ys : List Y) (o : Option Y) → i < length xs → ys ≡ filter_map f (map g (take i xs)) → f (g (get_or xs i 0)) ≡ o → ys ++ cons_option o [] ≡ filter_map f (map g (take (i + 1) xs))
next_found f g xs i ys o lt h e =
    ap₂ (λ a b. a ++ cons_option b []) h (sym e)
    ∙ (sym (filter_map-append f (map g (take i xs)) (g (get_or xs i 0) ∷ []))
    ∙ ap (filter_map f) (sym (map-append g (take i xs) (get_or xs i 0 ∷ [])) ∙ ap (map g) (sym (take_at_read xs i 0 lt).1)))

pub no_copy : (r : Option (Bor ℕ)) → ((x : Bor ℕ) → r ≡ Some x → ⊥) → option_copied r ≡ None
no_copy None h = refl
no_copy (Some x) h = absurd (h x refl)
