-- The method with the greatest number, found one behind the other.
use Rattle.std.proofs.Common.{◌≡◌, ℕ, ◌+◌, ◌<◌, ◌≤◌, Bool, List, [], ◌∷◌, ◌++◌, length, take, get_or, Contains, Option, Some, None, refl, sym, ap, ap₂, ◌∙◌, subst, inl, inr}
use Rattle.std.specs.Prelude.{nat_lt, if◌then◌else◌, option_map, IsSome}
use Rattle.std.proofs.lemmas.Bool.{cases_lt, cond_below, cond_above}
use Rattle.std.proofs.lemmas.List.{take_more, take_all}
use Rattle.std.proofs.lemmas.List.Elements.{Contains-append_left, Contains-push}
use Rattle.bound_rules.specs.Costs.{greater, greatest_of}
use Rattle.bound_finder.specs.declared.known.Known.{Known}
use Rattle.bound_finder.specs.Known.{known_at}
use Rattle.bound_finder.proofs.Greater.{greatest_push}
use Rattle.bound_report.specs.Callees.{number_by, better, IsGreatestTarget}

-- the best one of these methods, with its number
abbrev pub IsBest : (ℕ → Option ℕ) → List ℕ → Option (ℕ × ℕ) → Type 0
IsBest f xs None = greatest_of f xs ≡ None
IsBest f xs (Some y) = Contains xs y.0 × (f y.0 ≡ Some y.1) × (greatest_of f xs ≡ Some y.1)

best_push : (f : ℕ → Option ℕ) (xs : List ℕ) (x : ℕ) (best : Option (ℕ × ℕ)) (o : Option ℕ) → f x ≡ o → IsBest f xs best → IsBest f (xs ++ x ∷ []) (better best x o)
best_push f xs x None None is h = greatest_push f xs x ∙ ap₂ greater h is
best_push f xs x (Some y) None is h = (Contains-append_left xs (x ∷ []) y.0 h.0, h.1, greatest_push f xs x ∙ ap₂ greater h.2 is)
best_push f xs x None (Some n) is h = (Contains-push xs x, is, greatest_push f xs x ∙ ap₂ greater h is)
best_push f xs x (Some y) (Some n) is h =
    let B : ℕ × ℕ → Type 0 = λ z. IsBest f (xs ++ x ∷ []) (Some z) in
    let top : greatest_of f (xs ++ x ∷ []) ≡ Some (if nat_lt y.1 n then n else y.1) = greatest_push f xs x ∙ ap₂ greater h.2 is in
    elim (cases_lt y.1 n) [
      | inl less ↦
          let here : ℕ × ℕ = (x, n) in
          subst B (cond_below y.1 n here y less) (Contains-push xs x, is, top ∙ ap (λ (k : ℕ). Some k) (sym (cond_below y.1 n n y.1 less)))
      | inr more ↦
          let here : ℕ × ℕ = (x, n) in
          subst B (cond_above y.1 n here y y more refl) (Contains-append_left xs (x ∷ []) y.0 h.0, h.1, top ∙ ap (λ (k : ℕ). Some k) (sym (cond_above y.1 n n y.1 y.1 more refl)))
    ]

pub best_more : (f : ℕ → Option ℕ) (xs : List ℕ) (i : ℕ) (best : Option (ℕ × ℕ)) (o : Option ℕ) (new : Option (ℕ × ℕ)) → i < length xs → o ≡ f (get_or xs i 0) → new ≡ better best (get_or xs i 0) o → IsBest f (take i xs) best → IsBest f (take (i + 1) xs) new
best_more f xs i best o new lt is made h =
    subst (λ (b : Option (ℕ × ℕ)). IsBest f (take (i + 1) xs) b) (sym made)
    (subst (λ (ys : List ℕ). IsBest f ys (better best (get_or xs i 0) o)) (sym (take_more xs i 0 lt)) (best_push f (take i xs) (get_or xs i 0) best o (sym is) h))

some_value : (o : Option ℕ) (n : ℕ) → o ≡ Some n → IsSome o
some_value o n is = subst (λ (v : Option ℕ). IsSome v) (sym is) refl

pub chosen : (table : List Known) (pays : Bool) (targets : List ℕ) (i : ℕ) (best : Option (ℕ × ℕ)) → length targets ≤ i → IsBest (λ x. number_by pays (known_at table x)) (take i targets) best
    → IsGreatestTarget table pays targets (option_map (λ y. y.0) best)
chosen table pays targets i best all h = by best (subst (λ (ys : List ℕ). IsBest (λ x. number_by pays (known_at table x)) ys best) (take_all i targets all) h)
  where
    by : (best : Option (ℕ × ℕ)) → IsBest (λ x. number_by pays (known_at table x)) targets best → IsGreatestTarget table pays targets (option_map (λ y. y.0) best)
    by None h = h
    by (Some y) h = (h.0, some_value (number_by pays (known_at table y.0)) y.1 h.1, h.2 ∙ sym h.1)
