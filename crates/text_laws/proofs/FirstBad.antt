-- Lines that say items one behind another, of which no two clash: the first line that is refused is one.
use Rattle.std.proofs.Common.{◌≡◌, ℕ, suc, ◌<◌, ◌≤◌, List, [], ◌∷◌, ◌++◌, length, refl, sym, ◌∙◌, ap, ap₂, subst, append_assoc, ◌⊎◌, inl, inr, arith}
use Rattle.std.proofs.lemmas.Bool.{cases_order}

-- ---- two places in a list

-- the lines before both are the same, and so are both lines; or the one is among the lines before the other
abbrev IsCut : (before : List (List ℕ)) (line : List ℕ) (before' : List (List ℕ)) (line' : List ℕ) → Type 0
IsCut b l b' l' = ((b ≡ b') × (l ≡ l')) ⊎ ((mid : List (List ℕ)) × (b' ≡ b ++ l ∷ mid))

cut : (b : List (List ℕ)) (l : List ℕ) (a b' : List (List ℕ)) (l' : List ℕ) (a' : List (List ℕ)) → b ++ l ∷ a ≡ b' ++ l' ∷ a' → length b ≤ length b' → IsCut b l b' l'
cut [] l a [] l' a' e le = inl (refl, cc e)
cut [] l a (x ∷ b') l' a' e le = let same : l ≡ x = cc e in inr (b', ap (λ (y : List ℕ). y ∷ b') (sym same))
cut (x ∷ b) l a [] l' a' e le = absurd (omega (arith, le))
cut (x ∷ b) l a (y ∷ b') l' a' e le =
    let head : x ≡ y = cc e in
    let tail : b ++ l ∷ a ≡ b' ++ l' ∷ a' = cc e in
    elim (cut b l a b' l' a' tail (omega (arith, le))) [
      | inl same ↦ inl (ap₂ (λ (z : List ℕ) (zs : List (List ℕ)). z ∷ zs) head same.0, same.1)
      | inr later ↦ inr (later.0, ap₂ (λ (z : List ℕ) (zs : List (List ℕ)). z ∷ zs) (sym head) later.1)
    ]

-- ---- what lines say

-- the items that lines say, in their order
abbrev pub Give : {Item : Type 0} (Says : List ℕ → List Item → Type 0) → (lines : List (List ℕ)) → List Item → Type 0
Give Says [] xs = xs ≡ []
Give {Item} Says (line ∷ lines) xs = (first : List Item) × (rest : List Item) × (xs ≡ first ++ rest) × Says line first × Give Says lines rest

-- what the lines before one gave, what it gave, and the rest
record IsSplit (Item : Type 0) (Says : List ℕ → List Item → Type 0) (before : List (List ℕ)) (line : List ℕ) (xs : List Item) : Type 0 where
  pub front : List Item
  pub said : List Item
  pub rest : List Item
  pub is : xs ≡ front ++ (said ++ rest)
  pub given : Give Says before front
  pub says : Says line said

split : (Item : Type 0) (Says : List ℕ → List Item → Type 0) (before : List (List ℕ)) (line : List ℕ) (after : List (List ℕ)) (xs : List Item)
    → Give Says (before ++ line ∷ after) xs → IsSplit Item Says before line xs
split Item Says [] line after xs (first, rest, is, says, give) = record { front = []; said = first; rest = rest; is = is; given = refl; says = says }
split Item Says (b ∷ before) line after xs (first, rest, is, says, give) =
    let s : IsSplit Item Says before line rest = split Item Says before line after rest give in
    record {
      front = first ++ s.front;
      said = s.said;
      rest = s.rest;
      is = is ∙ (ap (λ (r : List Item). first ++ r) s.is ∙ sym (append_assoc first s.front (s.said ++ s.rest)));
      given = (first, s.front, refl, says, s.given);
      says = s.says;
    }

-- the line says nothing of the grammar; or it says an item that clashes with those that are said before it
pub data BadLine (Item : Type 0) (Says : List ℕ → List Item → Type 0) (There : Item → List Item → Type 0) (before : List (List ℕ)) (line : List ℕ) : Type 0 where
  no_line : ((xs : List Item) → Says line xs → ⊥) → BadLine Item Says There before line
  twice : (seen : List Item) (again : Item) → Give Says before seen → Says line (again ∷ []) → There again seen → BadLine Item Says There before line

module _ (Item : Type 0) (Says : List ℕ → List Item → Type 0) (Differ : List Item → Type 0) (There : Item → List Item → Type 0)
    (says_one : (line : List ℕ) (xs ys : List Item) → Says line xs → Says line ys → xs ≡ ys)
    (clash : (a : Item) (front rest : List Item) → Differ (front ++ a ∷ rest) → There a front → ⊥) where
  give_one : (lines : List (List ℕ)) (xs ys : List Item) → Give Says lines xs → Give Says lines ys → xs ≡ ys
  give_one [] xs ys x y = x ∙ sym y
  give_one (line ∷ lines) xs ys (first, rest, is, says, give) (first', rest', is', says', give') =
      is ∙ (ap₂ (λ (f r : List Item). f ++ r) (says_one line first first' says says') (give_one lines rest rest' give give') ∙ sym is')

  -- no line is bad of lines that give items that don't clash
  not_before : (before : List (List ℕ)) (line : List ℕ) (mid : List (List ℕ)) (xs : List Item) → BadLine Item Says There before line
      → Give Says (before ++ line ∷ mid) xs → Differ xs → ⊥
  not_before before line mid xs (no_line none) given differ = let s = split Item Says before line mid xs given in none s.said s.says
  not_before before line mid xs (twice seen again seen_given says there) given differ =
      let s = split Item Says before line mid xs given in
      let front : seen ≡ s.front = give_one before seen s.front seen_given s.given in
      let said : s.said ≡ again ∷ [] = says_one line s.said (again ∷ []) s.says says in
      let is : xs ≡ s.front ++ again ∷ s.rest = s.is ∙ ap (λ (z : List Item). s.front ++ (z ++ s.rest)) said in
      clash again s.front s.rest (subst Differ is differ) (subst (There again) front there)

  module _ (lines b : List (List ℕ)) (l : List ℕ) (a b' : List (List ℕ)) (l' : List ℕ) (a' : List (List ℕ)) (xs ys : List Item)
      (at : lines ≡ b ++ l ∷ a) (at' : lines ≡ b' ++ l' ∷ a') (bad : BadLine Item Says There b l) (bad' : BadLine Item Says There b' l')
      (given : Give Says b xs) (differ : Differ xs) (given' : Give Says b' ys) (differ' : Differ ys) where
    forward : length b ≤ length b' → (b ≡ b') × (l ≡ l')
    forward le = elim (cut b l a b' l' a' (sym at ∙ at') le) [
      | inl same ↦ same
      | inr later ↦ absurd (not_before b l later.0 ys bad (subst (λ (ls : List (List ℕ)). Give Says ls ys) later.1 given') differ')
    ]

    backward : length b' ≤ length b → (b ≡ b') × (l ≡ l')
    backward le = elim (cut b' l' a' b l a (sym at' ∙ at) le) [
      | inl same ↦ (sym same.0, sym same.1)
      | inr later ↦ absurd (not_before b' l' later.0 xs bad' (subst (λ (ls : List (List ℕ)). Give Says ls xs) later.1 given) differ)
    ]

    -- two bad lines, before each of which no line is, are one
    pub one_bad_line : (b ≡ b') × (l ≡ l')
    one_bad_line = elim (cases_order (length b) (length b')) [
      | inl same ↦ forward (omega (arith, same))
      | inr apart ↦ elim apart [ inl less ↦ forward (omega (arith, less)) | inr more ↦ backward (omega (arith, more)) ]
    ]
