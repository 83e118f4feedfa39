-- That no node is out of place is what is asked of nodes.
use Rattle.std.proofs.Common.{◌≡◌, ℕ, ◌^◌, ◌<◌, ◌≤◌, ◌⊎◌, ℤ, pos, negsuc, List, [], ◌∷◌, All, Contains, Option, Some, None, refl, sym, ap, ◌∙◌, subst, inl, inr, arith}
use Rattle.std.specs.Prelude.{◌+ℤ◌, option_map, IfSome}
use Rattle.std.proofs.lemmas.Bool.{cases_lt}
use Rattle.std.proofs.lemmas.Int.{ints}
use Rattle.std.proofs.lemmas.List.Elements.{All-cons, All-nil, All-head, All-tail}
use Rattle.lists.specs.Members.{has_or_not}
use Rattle.loop_nest.specs.Digraph.{Digraph}
use Rattle.section_check.specs.Least.{IsLeast, lesser_of}
use Rattle.section_check.specs.Section.{Certified, PricedLoop, priced, headed_by, start_value}
use Rattle.section_check.specs.Placing.{IsMisplaced}
use Rattle.section_check.proofs.LeastLemmas.{least_either}
use Rattle.priced_sections.specs.Prices.{PricedFact, own_due}
use Rattle.priced_sections.specs.Paid.{paying, HoldsAll, at_least_zero, paid_value, AreInPlace}
use Rattle.priced_sections.specs.Answers.{HeadsUnheld, IsOutOfPlace}
use Rattle.priced_sections.specs.Answers.IsOutOfPlace.{misplaced, heads_unheld, exceeds_value}
use Rattle.priced_sections.specs.Views.{IsTooLarge}

all_or_not : (ms us : List ℕ) → All (Contains ms) us ⊎ (All (Contains ms) us → ⊥)
all_or_not ms [] = inl (All-nil (Contains ms))
all_or_not ms (u ∷ us) =
    elim (has_or_not ms u) [
      | inl here ↦ elim (all_or_not ms us) [ inl rest ↦ inl (All-cons (Contains ms) u us here rest) | inr not_rest ↦ inr (λ all. not_rest (All-tail (Contains ms) u us all)) ]
      | inr not_here ↦ inr (λ all. not_here (All-head (Contains ms) u us all))
    ]

held_or_not : (o : Option PricedLoop) (nodes : List ℕ) → HoldsAll o nodes ⊎ (HoldsAll o nodes → ⊥)
held_or_not None nodes = inr (λ h. h)
held_or_not (Some l) nodes = all_or_not l.certified.members nodes

abbrev pub signed_value : Certified → List PricedLoop → List PricedFact → Option ℤ
signed_value c ls fs = option_map (λ z. z +ℤ pos (own_due fs)) (start_value c ls)

abbrev pub floored : Option ℤ → Option ℕ
floored o = option_map at_least_zero o

pub floored_value : (c : Certified) (ls : List PricedLoop) (fs : List PricedFact) → paid_value c ls fs ≡ floored (signed_value c ls fs)
floored_value c ls fs =
    let P : Option ℤ → Type 0 = λ o. option_map (λ z. at_least_zero (z +ℤ pos (own_due fs))) o ≡ floored (option_map (λ z. z +ℤ pos (own_due fs)) o) in
    let go : (o : Option ℤ) → P o = elim [ None ↦ refl | Some z ↦ refl ] in
    go (start_value c ls)

-- a value that is too large has more than 64 bits
exceeding : (o : Option ℤ) → IsTooLarge o → (n : ℕ) × (floored o ≡ Some n) × (2 ^ 64 ≤ n)
exceeding None large = absurd large
exceeding (Some (pos n)) large = (n, refl, omega (arith, ints))
exceeding (Some (negsuc n)) large = absurd (omega (arith, ints))

too_large_from : (o : Option ℤ) (n : ℕ) → floored o ≡ Some n → 2 ^ 64 ≤ n → IsTooLarge o
too_large_from None n is large = absurd (let bad : ⊥ = cc in bad)
too_large_from (Some (pos m)) n is large = let same : m ≡ n = cc in omega (arith, ints)
too_large_from (Some (negsuc m)) n is large = let same : 0 ≡ n = cc in absurd (omega arith)

small_from : (o : Option ℤ) → (IsTooLarge o → ⊥) → IfSome (floored o) (λ n. n < 2 ^ 64)
small_from None small = tt
small_from (Some (pos n)) small = elim (cases_lt n (2 ^ 64)) [ inl less ↦ less | inr more ↦ absurd (small (omega (arith, ints))) ]
small_from (Some (negsuc n)) small = omega arith

-- the least node that is out of place is the least of those that are so for one reason or another
pub least_out_of_place : (g : Digraph) (c : Certified) (bounds : List ℕ) (loads : List (Option ℕ)) (fs : List PricedFact) (value : Option ℤ) (a b w : Option ℕ) → value ≡ signed_value c (paying c bounds loads fs) fs
    → IsLeast (IsMisplaced g c bounds loads) a → IsLeast (HeadsUnheld (priced c.loops bounds loads) fs) b → IsLeast (λ u. (u ≡ 0) × IsTooLarge value) w
    → IsLeast (IsOutOfPlace g c bounds loads fs) (lesser_of (lesser_of a b) w)
least_out_of_place g c bounds loads fs value a b w is ha hb hw =
    let ls = paying c bounds loads fs in
    let Either : ℕ → Type 0 = λ u. IsMisplaced g c bounds loads u ⊎ HeadsUnheld (priced c.loops bounds loads) fs u in
    let Wrong : ℕ → Type 0 = λ u. (u ≡ 0) × IsTooLarge value in
    let T : Option ℤ → Type 0 = λ o. IsTooLarge o in
    let same : paid_value c ls fs ≡ floored value = floored_value c ls fs ∙ ap (λ (o : Option ℤ). floored o) (sym is) in
    let both = least_either (IsMisplaced g c bounds loads) (HeadsUnheld (priced c.loops bounds loads) fs) Either a b (λ u h. inl h) (λ u h. inr h) (λ u h. h) ha hb in
    least_either Either Wrong (IsOutOfPlace g c bounds loads fs) (lesser_of a b) w
    (λ u h. elim h [ inl x ↦ misplaced x | inr y ↦ heads_unheld y ])
    (λ u h. let e = exceeding value h.1 in exceeds_value h.0 (record { value = e.0; is = same ∙ e.1; exceeds = e.2 }))
    (λ u h. elim h [
      | misplaced x ↦ inl (inl x)
      | heads_unheld y ↦ inl (inr y)
      | exceeds_value entry x ↦ inr (entry, too_large_from value x.value (sym same ∙ x.is) x.exceeds)
    ])
    both hw

pub in_place : (g : Digraph) (c : Certified) (bounds : List ℕ) (loads : List (Option ℕ)) (fs : List PricedFact) → ((u : ℕ) → IsOutOfPlace g c bounds loads fs u → ⊥) → AreInPlace g c bounds loads fs
in_place g c bounds loads fs none =
    let ls = paying c bounds loads fs in
    record {
      placed = λ u wrong. none u (misplaced wrong);
      held = λ f h among is.
          elim (held_or_not (headed_by h (priced c.loops bounds loads)) f.nodes) [
            | inl held ↦ held
            | inr unheld ↦ absurd (none h (heads_unheld (record { fact = f; among = among; header = is; unheld = unheld })))
          ];
      small =
          let P : Option ℕ → Type 0 = λ o. IfSome o (λ n. n < 2 ^ 64) in
          subst P (sym (floored_value c ls fs)) (small_from (signed_value c ls fs) (λ large.
          let e = exceeding (signed_value c ls fs) large in
          none 0 (exceeds_value refl (record { value = e.0; is = floored_value c ls fs ∙ e.1; exceeds = e.2 }))));
    }

-- a value of nodes in place isn't too large
pub not_too_large : (g : Digraph) (c : Certified) (bounds : List ℕ) (loads : List (Option ℕ)) (fs : List PricedFact) (value : Option ℤ) → value ≡ signed_value c (paying c bounds loads fs) fs → ((u : ℕ) → IsOutOfPlace g c bounds loads fs u → ⊥) → IsTooLarge value → ⊥
not_too_large g c bounds loads fs value is none large =
    let e = exceeding value large in
    let same : paid_value c (paying c bounds loads fs) fs ≡ floored value = floored_value c (paying c bounds loads fs) fs ∙ ap (λ (o : Option ℤ). floored o) (sym is) in
    none 0 (exceeds_value refl (record { value = e.0; is = same ∙ e.1; exceeds = e.2 }))

-- where the nodes are as is asked, none is out of place
pub none_out : (g : Digraph) (c : Certified) (bounds : List ℕ) (loads : List (Option ℕ)) (fs : List PricedFact) → AreInPlace g c bounds loads fs → (u : ℕ) → IsOutOfPlace g c bounds loads fs u → ⊥
none_out g c bounds loads fs fine u (misplaced x) = fine.placed u x
none_out g c bounds loads fs fine u (heads_unheld y) = y.unheld (fine.held y.fact u y.among y.header)
none_out g c bounds loads fs fine u (exceeds_value entry x) =
    let P : Option ℕ → Type 0 = λ o. IfSome o (λ n. n < 2 ^ 64) in
    let small : x.value < 2 ^ 64 = subst P x.is fine.small in
    let large = x.exceeds in
    omega arith
