-- Whether a number is among others, asked from the other side.
use Rattle.std.proofs.Common.{◌≡◌, ℕ, ◌||◌, eqb, List, [], ◌∷◌, inl, inr, refl, sym, ap₂, ◌∙◌}
use Rattle.std.proofs.lemmas.Bool.{cases_eq, eq-eqb, ne_eqb}
use Rattle.std.specs.List.{list_any}
use Rattle.lists.specs.Numbers.{is_among}

eqb_flip : (a b : ℕ) → eqb a b ≡ eqb b a
eqb_flip a b = elim (cases_eq a b) [ inl e ↦ eq-eqb a b e ∙ sym (eq-eqb b a (sym e)) | inr e ↦ ne_eqb a b e ∙ sym (ne_eqb b a (λ s. e (sym s))) ]

-- the test of the other order
pub any_flip : (xs : List ℕ) (q : ℕ) → list_any (eqb q) xs ≡ is_among xs q
any_flip [] q = refl
any_flip (x ∷ xs) q = ap₂ (λ a b. a || b) (eqb_flip q x) (any_flip xs q)
