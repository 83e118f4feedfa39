-- What a search by place finds.
use Rattle.std.proofs.Common.{◌≡◌, ℕ, zero, suc, ◌+◌, ◌<◌, ◌≤◌, List, length, get_or, Some, None, refl, sym, ◌∙◌, ap, subst, arith, ⊎_elim}
use Rattle.std.specs.Prelude.{◌↔◌, slice_get, IsSomeAnd}
use Rattle.std.specs.declared.option.Option.{Option}
use Rattle.std.specs.declared.cmp.Ordering.TheVariants.{Less, Equal, Greater}
use Rattle.std.specs.List.{HoldsAt}
use Rattle.std.specs.List.Sorted.{IsStrictlyIncreasing, IsNonDecreasingBy, IsPartitionPoint}
use Rattle.std.specs.Ordering.{nat_cmp, ordering_index}
use Rattle.std.proofs.lemmas.Bool.{cases_lt}
use Rattle.std.proofs.lemmas.Bool.Decides.{nat_tests}
use Rattle.std.proofs.lemmas.Cmp.{ranked}
use Rattle.std.proofs.lemmas.List.{get_or-map, length-map}
use Rattle.std.proofs.lemmas.List.Sorted.{IsNonDecreasingBy-from_default}
use Rattle.std.proofs.lemmas.Option.{slice_get_within, slice_get_cases, get_or_from_slice_get}
use Rattle.lists.proofs.Lemmas.{some_in}
use Rattle.image_facts.specs.declared.method.CodedMethod.{CodedMethod}
use Rattle.image_facts.specs.Methods.{places}

-- ---- what is there

pub is_some_and : {A : Type 0} (o : Option A) (K : A → Type 0) → IsSomeAnd o K → (x : A) × (o ≡ Some x) × K x
is_some_and None K h = absurd h
is_some_and (Some x) K h = (x, refl, h)

-- ---- places that rise

rises : (xs : List ℕ) → IsStrictlyIncreasing xs → (i j : ℕ) → i < j → j < length xs → get_or xs i 0 < get_or xs j 0
rises xs h i zero lt within = absurd (omega arith)
rises xs h i (suc j) lt within =
    let up : j + 1 ≡ suc j = omega arith in
    let step : get_or xs j 0 < get_or xs (suc j) 0 = subst (λ k. get_or xs j 0 < get_or xs k 0) up (h j (omega arith)) in
    ⊎_elim (λ less. let further : get_or xs i 0 < get_or xs j 0 = rises xs h i j less (omega arith) in omega (arith, step, further))
    (λ ge. let same : i ≡ j = omega arith in let first : get_or xs i 0 ≡ get_or xs j 0 = ap (λ k. get_or xs k 0) same in omega (arith, step, first)) (cases_lt i j)

module _ (xs : List CodedMethod) (rising : IsStrictlyIncreasing (places xs)) (place : ℕ) where
  place_at : (m : ℕ) (d : CodedMethod) → m < length xs → get_or (places xs) m 0 ≡ (get_or xs m d).place
  place_at m d h = get_or-map (λ (e : CodedMethod). e.place) xs m d 0 h

  length_same : length (places xs) ≡ length xs
  length_same = simp length-map

  lies : (m : ℕ) (e : CodedMethod) → slice_get xs m ≡ Some e → (m < length xs) × (get_or (places xs) m 0 ≡ e.place)
  lies m e h = let within = slice_get_within xs m e h in (within, place_at m e within ∙ ap (λ (e : CodedMethod). e.place) (get_or_from_slice_get xs m e e h))

  one : (m n : ℕ) → m < length xs → n < length xs → get_or (places xs) m 0 ≡ place → get_or (places xs) n 0 ≡ place → m ≡ n
  one m n hm hn em en =
      ⊎_elim (λ lt. let below : get_or (places xs) m 0 < get_or (places xs) n 0 = rises (places xs) rising m n lt (omega (arith, length_same)) in absurd (omega (arith, below, em, en)))
      (λ ge. ⊎_elim (λ lt. let above : get_or (places xs) n 0 < get_or (places xs) m 0 = rises (places xs) rising n m lt (omega (arith, length_same)) in absurd (omega (arith, above, em, en)))
      (λ le. omega arith) (cases_lt n m)) (cases_lt m n)

  there : (m : ℕ) → m < length xs → (e : CodedMethod) × (slice_get xs m ≡ Some e)
  there m h = ⊎_elim (λ s. (s.0, s.2)) (λ past. absurd (omega (arith, past.0))) (slice_get_cases xs m).1

  -- the method that is found
  pub found : (number : ℕ) → number < length xs → HoldsAt (λ (e : CodedMethod). nat_cmp e.place place ≡ Equal) xs number
      → (m : ℕ) → (◌≡◌ {A = Option ℕ} (Some number) (Some m)) ↔ IsSomeAnd (slice_get xs m) (λ e. e.place ≡ place)
  found number within equal m =
      let (d, is) = there number within in
      let read : get_or xs number d ≡ d = get_or_from_slice_get xs number d d is in
      let here : d.place ≡ place = sym (ap (λ (e : CodedMethod). e.place) read) ∙ ranked (get_or xs number d).place place Equal (sym (equal d)) in (
        λ e. let same : number ≡ m = cc in some_in (slice_get xs m) d (λ e. e.place ≡ place) (subst (λ k. slice_get xs k ≡ Some d) same is) here,
        λ h. let (x, at, eq) = is_some_and (slice_get xs m) (λ e. e.place ≡ place) h in ap Some (one number m within (lies m x at).0 ((lies number d is).1 ∙ here) ((lies m x at).1 ∙ eq)),
      )

  rising_answers : (d : CodedMethod) → IsNonDecreasingBy (λ (e : CodedMethod). ordering_index (nat_cmp e.place place)) xs
  rising_answers d = IsNonDecreasingBy-from_default (λ (e : CodedMethod). ordering_index (nat_cmp e.place place)) xs d (λ i j le within.
      let first : get_or (places xs) i 0 ≡ (get_or xs i d).place = place_at i d (omega arith) in
      let second : get_or (places xs) j 0 ≡ (get_or xs j d).place = place_at j d within in
      let order : (get_or xs i d).place ≤ (get_or xs j d).place =
      ⊎_elim (λ lt. let further : get_or (places xs) i 0 < get_or (places xs) j 0 = rises (places xs) rising i j lt (omega (arith, length_same)) in omega (arith, further, first, second))
      (λ ge. let same : i ≡ j = omega arith in let e : (get_or xs i d).place ≡ (get_or xs j d).place = ap (λ k. (get_or xs k d).place) same in omega (arith, e)) (cases_lt i j) in
      rise (get_or xs i d).place (get_or xs j d).place order)
    where
      rise : (a b : ℕ) → a ≤ b → ordering_index (nat_cmp a place) ≤ ordering_index (nat_cmp b place)
      rise a b h = grind (arith, nat_tests)

  -- where none is found
  pub absent : (at : ℕ) → (IsNonDecreasingBy (λ (e : CodedMethod). ordering_index (nat_cmp e.place place)) xs
      → IsPartitionPoint (λ (e : CodedMethod). nat_cmp e.place place ≡ Less) (λ (e : CodedMethod). nat_cmp e.place place ≡ Greater) xs at)
      → (m : ℕ) → (◌≡◌ {A = Option ℕ} None (Some m)) ↔ IsSomeAnd (slice_get xs m) (λ e. e.place ≡ place)
  absent at parted m = (
    λ e. absurd (cc),
    λ h.
        let (x, is, eq) = is_some_and (slice_get xs m) (λ e. e.place ≡ place) h in
        let within = (lies m x is).0 in
        let (below, above) = parted (rising_answers x) in
        let read : (get_or xs m x).place ≡ x.place = ap (λ (e : CodedMethod). e.place) (get_or_from_slice_get xs m x x is) in
        ⊎_elim (λ lt. let less = ranked (get_or xs m x).place place Less (sym (below m x (omega arith) lt)) in absurd (omega (arith, less, read, eq)))
        (λ ge. let more = ranked (get_or xs m x).place place Greater (sym (above m x ge within)) in absurd (omega (arith, more, read, eq))) (cases_lt m at),
  )
