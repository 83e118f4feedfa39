-- The call at a place, among calls that rise by place.
use Rattle.std.proofs.Common.{◌≡◌, ℕ, ◌<◌, ◌≤◌, List, length, get_or, Contains, sym, ap, ◌∙◌, inl, inr, arith}
use Rattle.std.specs.declared.cmp.Ordering.TheVariants.{Less, Equal, Greater}
use Rattle.std.specs.List.{HoldsAt}
use Rattle.std.specs.List.Sorted.{IsStrictlyIncreasing, IsNonDecreasingBy, IsPartitionPoint}
use Rattle.std.specs.Ordering.{nat_cmp, ordering_index}
use Rattle.std.proofs.lemmas.Bool.{cases_lt, cases_order}
use Rattle.std.proofs.lemmas.Bool.Decides.{nat_tests}
use Rattle.std.proofs.lemmas.Cmp.{ranked}
use Rattle.std.proofs.lemmas.List.{get_or-map, length-map, get_or_default}
use Rattle.std.proofs.lemmas.List.Sorted.{IsNonDecreasingBy-from_default}
use Rattle.lists.specs.Members.{rising_pair, rising_all}
use Rattle.method_flow.specs.Flow.{places_of}
use Rattle.method_flow.specs.declared.flow.Call.{Call}

module _ (xs : List Call) (rising : IsStrictlyIncreasing (places_of xs)) (place : ℕ) where
  place_at : (m : ℕ) (d : Call) → m < length xs → get_or (places_of xs) m 0 ≡ (get_or xs m d).place
  place_at m d h = get_or-map (λ (e : Call). e.place) xs m d 0 h

  length_same : length (places_of xs) ≡ length xs
  length_same = length-map xs (λ (e : Call). e.place)

  -- the call that is found
  pub is_at : (i : ℕ) (c : Call) → i < length xs → HoldsAt (λ (e : Call). nat_cmp e.place place ≡ Equal) xs i → c ≡ get_or xs i c → c.place ≡ place
  is_at i c lt equal is = ap (λ (e : Call). e.place) is ∙ ranked (get_or xs i c).place place Equal (sym (equal c))

  pub only_one : (i : ℕ) (c : Call) → i < length xs → c.place ≡ place → c ≡ get_or xs i c → (d : Call) → Contains xs d → d.place ≡ place → d ≡ c
  only_one i c lt at is d has same =
      let k = has.0 in
      let within = has.1 in
      let here = place_at i c lt ∙ sym (ap (λ (e : Call). e.place) is) ∙ at in
      let there = place_at k d within ∙ ap (λ (e : Call). e.place) has.2 ∙ same in
      elim (cases_order i k) [
        | inl e ↦ sym has.2 ∙ ap (λ (j : ℕ). get_or xs j d) (sym e) ∙ get_or_default xs i d c lt ∙ sym is
        | inr apart ↦
            elim apart [
              | inl less ↦ let p = rising_pair (places_of xs) rising i k less (omega (arith, length_same)) in absurd (omega arith)
              | inr more ↦ let p = rising_pair (places_of xs) rising k i more (omega (arith, length_same)) in absurd (omega arith)
            ]
      ]

  rising_answers : (d : Call) → IsNonDecreasingBy (λ (e : Call). ordering_index (nat_cmp e.place place)) xs
  rising_answers d = IsNonDecreasingBy-from_default (λ (e : Call). ordering_index (nat_cmp e.place place)) xs d (λ i j le within.
      let first : get_or (places_of xs) i 0 ≡ (get_or xs i d).place = place_at i d (omega arith) in
      let second : get_or (places_of xs) j 0 ≡ (get_or xs j d).place = place_at j d within in
      let up = rising_all (places_of xs) rising i j le (omega (arith, length_same)) in
      rise (get_or xs i d).place (get_or xs j d).place (omega arith))
    where
      rise : (a b : ℕ) → a ≤ b → ordering_index (nat_cmp a place) ≤ ordering_index (nat_cmp b place)
      rise a b h = grind (arith, nat_tests)

  -- where none is found
  pub none_at : (at : ℕ) → (IsNonDecreasingBy (λ (e : Call). ordering_index (nat_cmp e.place place)) xs
      → IsPartitionPoint (λ (e : Call). nat_cmp e.place place ≡ Less) (λ (e : Call). nat_cmp e.place place ≡ Greater) xs at)
      → (d : Call) → Contains xs d → d.place ≡ place → ⊥
  none_at at parted d has same =
      let (below, above) = parted (rising_answers d) in
      let k = has.0 in
      let within = has.1 in
      let read : (get_or xs k d).place ≡ d.place = ap (λ (e : Call). e.place) has.2 in
      elim (cases_lt k at) [
        | inl lt ↦ let less = ranked (get_or xs k d).place place Less (sym (below k d (omega arith) lt)) in omega (arith, less, read, same)
        | inr ge ↦ let more = ranked (get_or xs k d).place place Greater (sym (above k d ge within)) in omega (arith, more, read, same)
      ]
