-- Numbers taken one after another, each behind all that are directly above it.
use Rattle.std.proofs.Common.{◌≡◌, ℕ, ◌+◌, ◌<◌, ◌≤◌, Bool, true, false, eqb, List, [], ◌∷◌, ◌++◌, take, length, get_or, inl, inr, refl, sym, ap, ◌∙◌, subst, arith, length-append}
use Rattle.std.specs.List.{IsDistinct}
use Rattle.std.specs.Bool.{MatchBool}
use Rattle.std.proofs.lemmas.List.{take-append-le, get_or_append_left}
use Rattle.std.proofs.lemmas.Bool.{cases_lt, or_cases, eqb-true, false≢true}
use Rattle.std.proofs.lemmas.Map.Steps.{length-le_from_distinct_below}
use Rattle.lists.specs.Numbers.{is_among}
use Rattle.lists.proofs.Reached.{in_append}
use Rattle.number_sets.specs.Numbers.{entry, IsOrdered, AreBelow, IsPeeled, IsWaiting}
use Rattle.number_sets.proofs.Marks.{any_flip}

-- ---- one more

last_of : (order : List ℕ) (c : ℕ) → get_or (order ++ c ∷ []) (length order) 0 ≡ c
last_of [] c = refl
last_of (x ∷ order) c = last_of order c

front_of : (order : List ℕ) (c : ℕ) → take (length order) (order ++ c ∷ []) ≡ order
front_of [] c = refl
front_of (x ∷ order) c = ap (λ xs. x ∷ xs) (front_of order c)

ordered_more : (above : List (List ℕ)) (order : List ℕ) (c : ℕ) → IsOrdered above order → ((d : ℕ) → is_among (entry above c) d ≡ true → is_among order d ≡ true) → IsOrdered above (order ++ c ∷ [])
ordered_more above order c h all i d lt e =
    elim (cases_lt i (length order)) [
      | inl l ↦
          let le : i ≤ length order = omega arith in
          ap (λ xs. is_among xs d) (take-append-le i order (c ∷ []) le)
          ∙ h i d l (ap (λ k. is_among (entry above k) d) (sym (get_or_append_left order (c ∷ []) 0 i l)) ∙ e)
      | inr g ↦
          let long = length-append order (c ∷ []) in
          let at : i ≡ length order = omega (arith, long, lt, g) in
          ap (λ k. is_among (take k (order ++ c ∷ [])) d) at
          ∙ (ap (λ xs. is_among xs d) (front_of order c)
          ∙ all d (ap (λ k. is_among (entry above k) d) (sym (ap (λ k. get_or (order ++ c ∷ []) k 0) at ∙ last_of order c)) ∙ e))
    ]

pub below_more : (most : ℕ) (order : List ℕ) (c : ℕ) → AreBelow most order → c < most → AreBelow most (order ++ c ∷ [])
below_more most order c h lt d e =
    elim (or_cases (is_among order d) (is_among (c ∷ []) d) (sym (in_append order (c ∷ []) d) ∙ e)) [
      | inl l ↦ h d l
      | inr r ↦ elim (or_cases (eqb c d) false r) [ inl s ↦ subst (λ k. k < most) (eqb-true c d s) lt | inr s ↦ absurd (false≢true s) ]
    ]

pub peeled_more : (above : List (List ℕ)) (order : List ℕ) (c : ℕ) → IsPeeled above order → c < length above → ((d : ℕ) → is_among (entry above c) d ≡ true → is_among order d ≡ true) → IsPeeled above (order ++ c ∷ [])
peeled_more above order c p lt all = record {
  ordered = ordered_more above order c p.ordered all;
  below = below_more (length above) order c p.below lt;
}

pub peeled_none : (above : List (List ℕ)) (order : List ℕ) → order ≡ [] → IsPeeled above order
peeled_none above order h = subst (λ (xs : List ℕ). IsPeeled above xs) (sym h) (record {
  ordered = λ i d lt e. absurd (omega (arith, lt));
  below = λ c e. absurd (false≢true e);
})

-- no more than there are
pub few : (above : List (List ℕ)) (order : List ℕ) → IsPeeled above order → IsDistinct eqb order → length order ≤ length above
few above order p d = length-le_from_distinct_below order (length above) d (λ q h. p.below q (sym (any_flip order q) ∙ h))

-- ---- a round

-- after a round over the numbers below one: whether any was taken, and if none was, that all of these wait
abbrev pub Went : List (List ℕ) → (old new : List ℕ) → (number : ℕ) → Bool → Type 0
Went above old new number any = MatchBool any (length old < length new) ((new ≡ old) × ((c : ℕ) → c < number → IsWaiting above new c))

pub went_taken : (above : List (List ℕ)) (old now next : List ℕ) (number c : ℕ) (any : Bool) → Went above old now number any → next ≡ now ++ c ∷ [] → length old < length next
went_taken above old now next number c true h e = let long = length-append now (c ∷ []) in let same = ap length e in omega (arith, h, long, same)
went_taken above old now next number c false h e = let long = length-append now (c ∷ []) in let same = ap length e in let none = ap length h.0 in omega (arith, none, long, same)

waits : (above : List (List ℕ)) (order : List ℕ) (number : ℕ) → ((c : ℕ) → c < number → IsWaiting above order c) → IsWaiting above order number → (c : ℕ) → c < number + 1 → IsWaiting above order c
waits above order number h w c lt =
    elim (cases_lt c number) [
      | inl l ↦ h c l
      | inr g ↦ let same : number ≡ c = omega (arith, lt, g) in subst (λ k. IsWaiting above order k) same w
    ]

pub went_left : (above : List (List ℕ)) (old now next : List ℕ) (number : ℕ) (any : Bool) → Went above old now number any → next ≡ now → IsWaiting above now number → Went above old next (number + 1) any
went_left above old now next number true h e w = let same = ap length e in omega (arith, h, same)
went_left above old now next number false h e w =
    subst (λ (xs : List ℕ). (xs ≡ old) × ((c : ℕ) → c < number + 1 → IsWaiting above xs c)) (sym e) (h.0, waits above now number h.1 w)
