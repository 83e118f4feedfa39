-- Where lists are parted at an item, and which of their items have a property.
use Rattle.std.proofs.Common.{◌≡◌, ℕ, ◌<◌, List, [], ◌∷◌, ◌++◌, length, Contains, sym, ap, subst, inl, inr, arith, length-append}
use Rattle.std.proofs.lemmas.List.Elements.{Contains-append_left, Contains-append_right, Contains-append_cases}
use Rattle.lists.specs.Members.{at_head, cons_cases, nil_contains, has_or_not}

-- what a list contains, it has at some place
pub parts_at : (xs : List ℕ) (x : ℕ) → Contains xs x → (before after : List ℕ) × (xs ≡ before ++ x ∷ after)
parts_at [] x has = absurd (nil_contains x has)
parts_at (y ∷ ys) x has =
    elim (cons_cases y x ys has) [
      | inl same ↦ ([], ys, ap (λ (z : ℕ). z ∷ ys) same)
      | inr there ↦ let r = parts_at ys x there in (y ∷ r.0, r.1, ap (λ (zs : List ℕ). y ∷ zs) r.2)
    ]

-- a first place
pub first_at : (xs : List ℕ) (x : ℕ) → Contains xs x → (before after : List ℕ) × (xs ≡ before ++ x ∷ after) × (Contains before x → ⊥)
first_at [] x has = absurd (nil_contains x has)
first_at (y ∷ ys) x has =
    elim (cons_cases y x ys has) [
      | inl same ↦ ([], ys, ap (λ (z : ℕ). z ∷ ys) same, λ c. nil_contains x c)
      | inr there ↦
          let r = first_at ys x there in
          elim (has_or_not (y ∷ []) x) [
            | inl here ↦ ([], ys, (elim (cons_cases y x [] here) [ inl same ↦ ap (λ (z : ℕ). z ∷ ys) same | inr none ↦ absurd (nil_contains x none) ]), λ c. nil_contains x c)
            | inr apart ↦ (
              y ∷ r.0,
              r.1,
              ap (λ (zs : List ℕ). y ∷ zs) r.2,
              λ c. elim (cons_cases y x r.0 c) [
                | inl same ↦ apart (subst (λ (z : ℕ). Contains (y ∷ []) z) same (at_head y []))
                | inr more ↦ r.3 more
              ],
            )
          ]
    ]

-- a last place
pub last_at : (xs : List ℕ) (x : ℕ) → Contains xs x → (before after : List ℕ) × (xs ≡ before ++ x ∷ after) × (Contains after x → ⊥)
last_at [] x has = absurd (nil_contains x has)
last_at (y ∷ ys) x has =
    elim (has_or_not ys x) [
      | inl there ↦ let r = last_at ys x there in (y ∷ r.0, r.1, ap (λ (zs : List ℕ). y ∷ zs) r.2, r.3)
      | inr none ↦
          elim (cons_cases y x ys has) [
            | inl same ↦ ([], ys, ap (λ (z : ℕ). z ∷ ys) same, none)
            | inr there ↦ absurd (none there)
          ]
    ]

-- without an item, a list is shorter, and has all its others
pub without : (xs : List ℕ) (x : ℕ) → Contains xs x → (ys : List ℕ) × (length ys < length xs) × ((y : ℕ) → Contains xs y → (y ≡ x → ⊥) → Contains ys y)
without xs x has =
    let r = parts_at xs x has in
    let long = length-append r.0 (x ∷ r.1) in
    let short = length-append r.0 r.1 in
    let is = ap (λ (zs : List ℕ). length zs) r.2 in (
      r.0 ++ r.1,
      omega arith,
      λ y c other. elim (Contains-append_cases r.0 (x ∷ r.1) y (subst (λ (zs : List ℕ). Contains zs y) r.2 c)) [
        | inl front ↦ Contains-append_left r.0 r.1 y front
        | inr back ↦
            elim (cons_cases x y r.1 back) [
              | inl same ↦ absurd (other (sym same))
              | inr behind ↦ Contains-append_right r.0 r.1 y behind
            ]
      ],
    )
