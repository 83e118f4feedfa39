-- The site at a place, among sites that rise by place.
use Rattle.std.proofs.Common.{◌≡◌, ℕ, ◌<◌, ◌≤◌, List, length, get_or, Contains, sym, ap, ◌∙◌, subst, inl, inr, arith}
use Rattle.std.specs.declared.cmp.Ordering.TheVariants.{Less, Equal, Greater}
use Rattle.std.specs.List.{HoldsAt}
use Rattle.std.specs.List.Sorted.{IsStrictlyIncreasing, IsNonDecreasingBy, IsPartitionPoint}
use Rattle.std.specs.Ordering.{nat_cmp, ordering_index}
use Rattle.std.proofs.lemmas.Bool.{cases_lt}
use Rattle.std.proofs.lemmas.Bool.Decides.{nat_tests}
use Rattle.std.proofs.lemmas.Cmp.{ranked}
use Rattle.std.proofs.lemmas.List.{get_or-map, length-map}
use Rattle.std.proofs.lemmas.List.Sorted.{IsNonDecreasingBy-from_default}
use Rattle.lists.specs.Members.{rising_all}
use Rattle.memory_rules.specs.declared.sites.Site.{Site}
use Rattle.memory_rules.specs.declared.sites.Makes.TheVariants.{Object}
use Rattle.memory_rules.specs.Sites.{places_of}

module _ (xs : List Site) (rising : IsStrictlyIncreasing (places_of xs)) (place : ℕ) where
  place_at : (m : ℕ) (d : Site) → m < length xs → get_or (places_of xs) m 0 ≡ (get_or xs m d).place
  place_at m d h = get_or-map (λ (e : Site). e.place) xs m d 0 h

  length_same : length (places_of xs) ≡ length xs
  length_same = length-map xs (λ (e : Site). e.place)

  pub is_at : (i : ℕ) (x : Site) → i < length xs → HoldsAt (λ (e : Site). nat_cmp e.place place ≡ Equal) xs i → x ≡ get_or xs i x → Contains xs (record { place = place; makes = x.makes })
  is_at i x lt equal is =
      let at : x.place ≡ place = ap (λ (e : Site). e.place) is ∙ ranked (get_or xs i x).place place Equal (sym (equal x)) in
      let has : Contains xs x = (i, lt, sym is) in
      subst (λ (p : ℕ). Contains xs (record { place = p; makes = x.makes })) at has

  rising_answers : (d : Site) → IsNonDecreasingBy (λ (e : Site). ordering_index (nat_cmp e.place place)) xs
  rising_answers d = IsNonDecreasingBy-from_default (λ (e : Site). ordering_index (nat_cmp e.place place)) xs d (λ i j le within.
      let first : get_or (places_of xs) i 0 ≡ (get_or xs i d).place = place_at i d (omega arith) in
      let second : get_or (places_of xs) j 0 ≡ (get_or xs j d).place = place_at j d within in
      let up = rising_all (places_of xs) rising i j le (omega (arith, length_same)) in
      rise (get_or xs i d).place (get_or xs j d).place (omega arith))
    where
      rise : (a b : ℕ) → a ≤ b → ordering_index (nat_cmp a place) ≤ ordering_index (nat_cmp b place)
      rise a b h = grind (arith, nat_tests)

  -- where none is found
  pub none_at : (at : ℕ) → (IsNonDecreasingBy (λ (e : Site). ordering_index (nat_cmp e.place place)) xs
      → IsPartitionPoint (λ (e : Site). nat_cmp e.place place ≡ Less) (λ (e : Site). nat_cmp e.place place ≡ Greater) xs at)
      → Contains (places_of xs) place → ⊥
  none_at at parted has =
      let d : Site = record { place = place; makes = Object 0 } in
      let (below, above) = parted (rising_answers d) in
      let k = has.0 in
      let within : k < length xs = (let lt = has.1 in omega (arith, length_same)) in
      let read : (get_or xs k d).place ≡ place = sym (get_or-map (λ (e : Site). e.place) xs k d place within) ∙ has.2 in
      elim (cases_lt k at) [
        | inl lt ↦ let less = ranked (get_or xs k d).place place Less (sym (below k d (omega arith) lt)) in omega (arith, less, read)
        | inr ge ↦ let more = ranked (get_or xs k d).place place Greater (sym (above k d ge within)) in omega (arith, more, read)
      ]
