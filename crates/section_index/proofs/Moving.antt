-- A split of classes by a set.
use Rattle.std.proofs.Common.{◌≡◌, ◌≢◌, ℕ, ◌+◌, ◌<◌, ◌≤◌, List, ◌++◌, length, get_or, set, take, Contains, refl, sym, ap, ◌∙◌, subst, inl, inr, arith}
use Rattle.std.proofs.lemmas.Bool.{cases_eq, cases_lt}
use Rattle.std.proofs.lemmas.List.{take_all, take-append-le, get_or-set_same, get_or-set_other, length-set, get_or_default}
use Rattle.lists.specs.Members.{has_or_not, place_of}
use Rattle.section_index.specs.Classes.{class_of, HasPlace, ArePlaces, AreMoved, IsSplitBy, HasAlike}

-- the places of one number more
pub places_more : (xs cs ps : List ℕ) (i : ℕ) → class_of cs (get_or xs i 0) < length ps → ((j : ℕ) → j < i → HasPlace xs cs ps i (get_or xs j 0)) → (j : ℕ) → j < i + 1 → HasPlace xs cs (set ps (class_of cs (get_or xs i 0)) i) (i + 1) (get_or xs j 0)
places_more xs cs ps i inside before j lt =
    let a = class_of cs (get_or xs i 0) in
    let b = class_of cs (get_or xs j 0) in
    let qs = set ps a i in
    elim (cases_eq b a) [
      | inl same ↦
          let here : get_or qs b 0 ≡ i = ap (λ k. get_or qs k 0) same ∙ get_or-set_same ps a i 0 inside in
          record { below = omega arith; same = ap (λ k. class_of cs (get_or xs k 0)) here ∙ sym same }
      | inr other ↦
          let early : j < i = elim (cases_lt j i) [ inl less ↦ less | inr ge ↦ let e : j ≡ i = omega arith in absurd (other (ap (λ k. class_of cs (get_or xs k 0)) e)) ] in
          let h = before j early in
          let kept : get_or qs b 0 ≡ get_or ps b 0 = get_or-set_other ps a b i 0 other in
          let low = h.below in
          record { below = omega arith; same = ap (λ k. class_of cs (get_or xs k 0)) kept ∙ h.same }
    ]

pub places_all : (xs cs ps : List ℕ) (i : ℕ) → length xs ≤ i → i ≤ length xs → ((j : ℕ) → j < i → HasPlace xs cs ps i (get_or xs j 0)) → ArePlaces xs cs ps
places_all xs cs ps i high low h x has =
    let at = place_of xs x has in
    let below = at.1 in
    let same : i ≡ length xs = omega arith in
    let P : ℕ → Type 0 = λ n. HasPlace xs cs ps n x in
    let Q : ℕ → Type 0 = λ y. HasPlace xs cs ps i y in
    subst P same (subst Q at.2 (h at.0 (omega arith)))

-- after the first i numbers of a set are moved
pub record AreMovedBelow (xs places : List ℕ) (base : ℕ) (old new : List ℕ) (i : ℕ) : Type 0 where
  pub long : length new ≡ length old
  pub moved : (j : ℕ) → j < i → class_of new (get_or xs j 0) ≡ base + get_or places (class_of old (get_or xs j 0)) 0
  pub stay : (x : ℕ) → ((j : ℕ) → j < i → get_or xs j 0 ≢ x) → class_of new x ≡ class_of old x

pub moved_none : (xs places : List ℕ) (base : ℕ) (old : List ℕ) → AreMovedBelow xs places base old old 0
moved_none xs places base old = record { long = refl; moved = λ j lt. absurd (omega arith); stay = λ x h. refl }

-- a number that isn't moved yet
pub not_yet : (xs places : List ℕ) (base : ℕ) (old new : List ℕ) (i : ℕ) → ((j : ℕ) → j < i → get_or xs j 0 ≢ get_or xs i 0) → AreMovedBelow xs places base old new i → class_of new (get_or xs i 0) ≡ class_of old (get_or xs i 0)
not_yet xs places base old new i apart h = h.stay (get_or xs i 0) apart

pub moved_more : (xs places : List ℕ) (base : ℕ) (old new : List ℕ) (i v : ℕ) → get_or xs i 0 < length old → ((j : ℕ) → j < i → get_or xs j 0 ≢ get_or xs i 0) → v ≡ base + get_or places (class_of old (get_or xs i 0)) 0
    → AreMovedBelow xs places base old new i → AreMovedBelow xs places base old (set new (get_or xs i 0) v) (i + 1)
moved_more xs places base old new i v inside apart is h =
    let y = get_or xs i 0 in
    let same_long = h.long in
    let within : y < length new = omega arith in
    record {
      long = length-set new y v ∙ h.long;
      moved = λ j lt.
          elim (cases_lt j i) [
            | inl early ↦ get_or-set_other new y (get_or xs j 0) v 0 (apart j early) ∙ h.moved j early
            | inr late ↦
                let e : i ≡ j = omega arith in
                let P : ℕ → Type 0 = λ k. get_or (set new y v) (get_or xs k 0) 0 ≡ base + get_or places (class_of old (get_or xs k 0)) 0 in
                subst P e (get_or-set_same new y v 0 within ∙ is)
          ];
      stay = λ x out. get_or-set_other new y x v 0 (λ e. out i (omega arith) (sym e)) ∙ h.stay x (λ j lt. out j (omega arith));
    }

pub moved_all : (xs places : List ℕ) (base : ℕ) (old new : List ℕ) (i : ℕ) → length xs ≤ i → i ≤ length xs → AreMovedBelow xs places base old new i → AreMoved xs places base old new
moved_all xs places base old new i high low h = record {
  long = h.long;
  moved = λ x has.
      let at = place_of xs x has in
      let below = at.1 in
      let P : ℕ → Type 0 = λ y. class_of new y ≡ base + get_or places (class_of old y) 0 in
      subst P at.2 (h.moved at.0 (omega arith));
  stay = λ x out. h.stay x (λ j lt same. out (j, omega arith, get_or_default xs j x 0 (omega arith) ∙ same));
}

-- what the moves make of the classes
module _ (xs places : List ℕ) (base : ℕ) (old new : List ℕ) (m : AreMoved xs places base old new) (p : ArePlaces xs old places) (low : (x : ℕ) → x < length old → class_of old x < base) where
  same_places : (x y : ℕ) → Contains xs x → Contains xs y → get_or places (class_of old x) 0 ≡ get_or places (class_of old y) 0 → class_of old x ≡ class_of old y
  same_places x y in_x in_y same = sym (p x in_x).same ∙ ap (λ k. class_of old (get_or xs k 0)) same ∙ (p y in_y).same

  never_both : (x y : ℕ) → y < length old → Contains xs x → (Contains xs y → ⊥) → class_of new x ≡ class_of new y → ⊥
  never_both x y below in_x out_y same =
      let one = m.moved x in_x in
      let other = m.stay y out_y in
      let less = low y below in
      omega arith

  split_before : (x y : ℕ) → x < length old → y < length old → class_of new x ≡ class_of new y → class_of old x ≡ class_of old y
  split_before x y bx by same =
      elim (has_or_not xs x) [
        | inl in_x ↦
            elim (has_or_not xs y) [
              | inl in_y ↦
                  let one = m.moved x in_x in
                  let other = m.moved y in_y in
                  same_places x y in_x in_y (omega arith)
              | inr out_y ↦ absurd (never_both x y by in_x out_y same)
            ]
        | inr out_x ↦
            elim (has_or_not xs y) [
              | inl in_y ↦ absurd (never_both y x bx in_y out_x (sym same))
              | inr out_y ↦ sym (m.stay x out_x) ∙ same ∙ m.stay y out_y
            ]
      ]

  split_alike : (x y : ℕ) → x < length old → y < length old → class_of new x ≡ class_of new y → HasAlike xs x y
  split_alike x y bx by same =
      elim (has_or_not xs x) [
        | inl in_x ↦ elim (has_or_not xs y) [ inl in_y ↦ (λ c. in_y, λ c. in_x) | inr out_y ↦ absurd (never_both x y by in_x out_y same) ]
        | inr out_x ↦ elim (has_or_not xs y) [ inl in_y ↦ absurd (never_both y x bx in_y out_x (sym same)) | inr out_y ↦ (λ c. absurd (out_x c), λ c. absurd (out_y c)) ]
      ]

  split_after : (x y : ℕ) → x < length old → y < length old → class_of old x ≡ class_of old y → HasAlike xs x y → class_of new x ≡ class_of new y
  split_after x y bx by same alike =
      elim (has_or_not xs x) [
        | inl in_x ↦ m.moved x in_x ∙ ap (λ k. base + get_or places k 0) same ∙ sym (m.moved y (alike.0 in_x))
        | inr out_x ↦ m.stay x out_x ∙ same ∙ sym (m.stay y (λ c. out_x (alike.1 c)))
      ]

  pub split_by : IsSplitBy xs old new
  split_by = record { long = m.long; before = split_before; alike = split_alike; after = split_after }

  -- each class has a place among as many as there are
  pub still_below : (high : ℕ) → base + length xs ≤ high → (x : ℕ) → x < length old → class_of new x < high
  still_below high room x below =
      elim (has_or_not xs x) [
        | inl in_x ↦
            let one = m.moved x in_x in
            let few = (p x in_x).below in
            omega arith
        | inr out_x ↦
            let other = m.stay x out_x in
            let less = low x below in
            omega arith
      ]

-- what is written back into a vector of this length
pub written_back : (n : ℕ) (new rest : List ℕ) → length new ≡ n → take n (new ++ rest) ≡ new
written_back n new rest long = take-append-le n new rest (omega arith) ∙ take_all n new (omega arith)
