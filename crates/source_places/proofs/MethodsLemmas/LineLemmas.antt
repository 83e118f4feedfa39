-- The lines of places, one more at a time.
use Rattle.std.proofs.Common.{◌≡◌, ℕ, ◌+◌, ◌<◌, List, [], ◌∷◌, ◌++◌, length, take, get_or, append-nil, sym, ◌∙◌, ap, ap₂, Option, Some, None}
use Rattle.std.specs.List.{filter_map, cons_option}
use Rattle.std.proofs.lemmas.Grind.{take_at_read}
use Rattle.std.proofs.lemmas.List.Elements.{filter_map-append}

module _ {X : Type 0} (f : X → Option ℕ) (xs : List X) (i : ℕ) (d : X) (found new : List ℕ) (lt : i < length xs) (before : found ≡ filter_map f (take i xs)) where
  -- one item more
  mapped_more : filter_map f (take (i + 1) xs) ≡ filter_map f (take i xs) ++ cons_option (f (get_or xs i d)) []
  mapped_more = ap (filter_map f) (take_at_read xs i d lt).1 ∙ filter_map-append f (take i xs) (get_or xs i d ∷ [])

  pub one_line : (line : ℕ) → new ≡ found ++ line ∷ [] → f (get_or xs i d) ≡ Some line → new ≡ filter_map f (take (i + 1) xs)
  one_line line put is = put ∙ ap₂ (λ (a : List ℕ) (o : Option ℕ). a ++ cons_option o []) before (sym is) ∙ sym mapped_more

  pub no_line : new ≡ found → f (get_or xs i d) ≡ None → new ≡ filter_map f (take (i + 1) xs)
  no_line put is =
      put ∙ before ∙ sym (append-nil (filter_map f (take i xs))) ∙ ap (λ (o : Option ℕ). filter_map f (take i xs) ++ cons_option o []) (sym is) ∙ sym mapped_more
