-- Places in a list.
use Rattle.std.proofs.Common.{◌≡◌, Bool, true, List, ◌∷◌, ◌⊎◌, inl, inr, refl}
use Rattle.std.specs.List.{list_any}
use Rattle.std.proofs.lemmas.Bool.{or_cases, or_left, or_right}
use Rattle.class_lookup.proofs.Overriding.{place_same, same_is_place}
use Rattle.class_lookup.specs.Lookup.{Place, same_place}

abbrev pub has : List Place → Place → Bool
has ms m = list_any (same_place m) ms

pub has_head : (m : Place) (ms : List Place) → has (m ∷ ms) m ≡ true
has_head m ms = or_left (same_place m m) (has ms m) (same_is_place m m refl)

pub has_tail : (x m : Place) (ms : List Place) → has ms m ≡ true → has (x ∷ ms) m ≡ true
has_tail x m ms h = or_right (same_place m x) (has ms m) h

pub has_cases : (x m : Place) (ms : List Place) → has (x ∷ ms) m ≡ true → (m ≡ x) ⊎ (has ms m ≡ true)
has_cases x m ms h = elim (or_cases (same_place m x) (has ms m) h) [ inl e ↦ inl (place_same m x e) | inr e ↦ inr e ]
