-- Other numbers of nodes: they tell nodes apart, and keep the order of lists.
use Rattle.std.proofs.Common.{◌≡◌, ℕ, ◌+◌, ◌<◌, ◌||◌, Bool, eqb, List, [], ◌∷◌, length, map, get_or, Contains, refl, sym, ap, ap₂, ◌∙◌, subst, inl, inr, arith}
use Rattle.std.specs.List.Sorted.{IsStrictlyIncreasing}
use Rattle.std.proofs.lemmas.Bool.{cases_eq, cases_order, eq-eqb, ne_eqb}
use Rattle.std.proofs.lemmas.List.{get_or-map, length-map}
use Rattle.std.proofs.lemmas.List.Elements.{Contains-get_or}
use Rattle.lists.specs.Members.{at_head, in_tail}
use Rattle.loop_nest.proofs.Elements.{from_map}
use Rattle.section_check.specs.Bounded.{holds}

-- the numbers of so many nodes rise
abbrev pub AreRising : ℕ → (ℕ → ℕ) → Type 0
AreRising n node = (u v : ℕ) → v < n → u < v → node u < node v

abbrev pub AreBelow : ℕ → List ℕ → Type 0
AreBelow n us = (u : ℕ) → Contains us u → u < n

pub rest_below : (n m : ℕ) (ms : List ℕ) → AreBelow n (m ∷ ms) → AreBelow n ms
rest_below n m ms below u has = below u (in_tail m u ms has)

module _ (n : ℕ) (node : ℕ → ℕ) (rising : AreRising n node) where
  pub same_node : (u v : ℕ) → u < n → v < n → node u ≡ node v → u ≡ v
  same_node u v lu lv same =
      elim (cases_order u v) [
        | inl e ↦ e
        | inr apart ↦
            elim apart [
              | inl less ↦ let up = rising u v lv less in absurd (omega arith)
              | inr more ↦ let up = rising v u lu more in absurd (omega arith)
            ]
      ]

  pub same_test : (u v : ℕ) → u < n → v < n → eqb (node u) (node v) ≡ eqb u v
  same_test u v lu lv =
      elim (cases_eq u v) [
        | inl e ↦ eq-eqb (node u) (node v) (ap node e) ∙ sym (eq-eqb u v e)
        | inr other ↦ ne_eqb (node u) (node v) (λ same. other (same_node u v lu lv same)) ∙ sym (ne_eqb u v other)
      ]

  pub same_holds : (ms : List ℕ) → AreBelow n ms → (u : ℕ) → u < n → holds (map node ms) (node u) ≡ holds ms u
  same_holds [] below u lu = refl
  same_holds (m ∷ ms) below u lu = ap₂ (λ (a b : Bool). a || b) (same_test m u (below m (at_head m ms)) lu) (same_holds ms (rest_below n m ms below) u lu)

  pub moved_back : (ms : List ℕ) → AreBelow n ms → (u : ℕ) → u < n → Contains (map node ms) (node u) → Contains ms u
  moved_back ms below u lu has =
      let f = from_map node ms (node u) has in
      subst (λ (z : ℕ). Contains ms z) (same_node f.0 u (below f.0 f.1) lu f.2) f.1

  pub rising_moved : (us : List ℕ) → AreBelow n us → IsStrictlyIncreasing us → IsStrictlyIncreasing (map node us)
  rising_moved us below rise k lt =
      let long = length-map us node in
      let lt' : k + 1 < length us = omega arith in
      let here = get_or-map node us k 0 0 (let e : k < length us = omega arith in e) in
      let next = get_or-map node us (k + 1) 0 0 lt' in
      let up = rising (get_or us k 0) (get_or us (k + 1) 0) (below (get_or us (k + 1) 0) (Contains-get_or us (k + 1) 0 lt')) (rise k lt') in
      omega arith
