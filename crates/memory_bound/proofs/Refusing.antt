-- What is found of all methods that may run tells the need, or the cause why there is none.
use Rattle.std.proofs.Common.{◌≡◌, ℕ, ◌<◌, List, Contains, Option, Some, None, sym, ◌∙◌, subst, inl, inr, arith}
use Rattle.std.specs.Prelude.{unwrap_or}
use Rattle.lists.proofs.Lemmas.{none≢some}
use Rattle.section_check.specs.Least.{IsLeast}
use Rattle.bytecode_model.specs.Program.{Program}
use Rattle.method_flow.specs.Keeping.{BoundOf}
use Rattle.method_flow.specs.Regions.{IsWithin}
use Rattle.method_flow.specs.Regions.IsWithin.{itself, calls}
use Rattle.memory_rules.specs.declared.causes.NeedFault.{NeedFault}
use Rattle.memory_rules.specs.declared.causes.NeedFault.TheVariants.{Recursion, Irreducible, MissingBound, MissingSize, TooLarge, NoMemory}
use Rattle.memory_rules.specs.Heap.{OfMethod, IsMostMade}
use Rattle.memory_rules.specs.Given.{IsFirstLackingLine, LacksLength, IsFirstLackingLength, HaveLengths, HaveMakingLines}
use Rattle.memory_bound.specs.declared.found.Found.{Found}
use Rattle.memory_bound.specs.Found.{LacksLoopBound, HasArrayLength, IsFirstUnlimitedOf, HaveBoundsWithin, Exceeds, IsMostOr, IsMemoryFoundOf, found_at}
use Rattle.memory_bound.specs.Causes.{NeedIsTooLarge}
use Rattle.memory_bound.specs.Needs.{IsSmall, NoneLacksBound, NoneLacksLength, HaveNoCause, IsFoundFault, IsFaultIn}

-- what may run while something runs that may run
within_on : {P : Program} {m t x : ℕ} → IsWithin P m t → IsWithin P t x → IsWithin P m x
within_on itself k = k
within_on (calls p start call target h) k = calls p start call target (within_on h k)

module _ (P : Program) (bounds lengths : BoundOf) (table : List Found) (ms : List ℕ) (are : (x : ℕ) → (Contains ms x → IsWithin P P.boot x) × (IsWithin P P.boot x → Contains ms x))
    (found : (x : ℕ) → Contains ms x → IsMemoryFoundOf P bounds lengths x (found_at table x)) where
  no_bound_lacks : (x : ℕ) → Contains ms x → (found_at table x).unbounded ≡ None → (p : ℕ) → LacksLoopBound P bounds x p → ⊥
  no_bound_lacks x has none p lacks = subst (λ (o : Option ℕ). IsLeast (LacksLoopBound P bounds x) o) none (found x has).unbounded p lacks

  no_length_lacks : (x : ℕ) → Contains ms x → (found_at table x).unlimited ≡ None → (p : ℕ) → HasArrayLength P lengths x p
  no_length_lacks x has none p = subst (λ (o : Option ℕ). IsFirstUnlimitedOf P lengths x o) none (found x has).unlimited p

  not_lacking : (x p : ℕ) → HasArrayLength P lengths x p → LacksLength P lengths x p → ⊥
  not_lacking x p h lacks =
      elim (h lacks.arrays) [
        | inl c ↦ lacks.no_constant c.0 c.1
        | inr n ↦ none≢some n.0 (sym lacks.none ∙ n.1)
      ]

  pub lines_are : NoneLacksBound table ms → HaveMakingLines P bounds
  lines_are none m p lacks = let has = (are m).1 lacks.within in no_bound_lacks m has (none m has) p (lacks.heads, lacks.none)

  pub lengths_are : NoneLacksLength table ms → HaveLengths P lengths
  lengths_are none m p within arrays = let has = (are m).1 within in no_length_lacks m has (none m has) p arrays

  bounds_within : NoneLacksBound table ms → (m : ℕ) → Contains ms m → HaveBoundsWithin P bounds m
  bounds_within none m has t within p lacks = let there = (are t).1 (within_on ((are m).0 has) within) in no_bound_lacks t there (none t there) p lacks

  heap_is : NoneLacksBound table ms → (m : ℕ) → Contains ms m → IsMostOr P bounds lengths (OfMethod m) (found_at table m).heap
  heap_is none m has = (found m has).heap (bounds_within none m has)

  -- the words of a method that aren't too many
  small_is : NoneLacksBound table ms → (m : ℕ) → Contains ms m → IsSmall (found_at table m).heap → Exceeds P bounds lengths (OfMethod m) → ⊥
  small_is none m has = by (found_at table m).heap (heap_is none m has)
    where
      by : (o : Option ℕ) → IsMostOr P bounds lengths (OfMethod m) o → IsSmall o → Exceeds P bounds lengths (OfMethod m) → ⊥
      by None h small e = small
      by (Some v) h small e = let le = h.greatest e.words e.may in let more = e.exceeds in omega arith

  pub none_large : HaveNoCause table ms → (m : ℕ) → NeedIsTooLarge P bounds lengths m → ⊥
  none_large none m large = let has = (are m).1 large.0 in small_is none.bounds m has (none.sizes m has) large.1

  pub need_is : HaveNoCause table ms → (m : ℕ) → Contains ms m → IsMostMade P bounds lengths (OfMethod m) (unwrap_or (found_at table m).heap 0)
  need_is none m has = by (found_at table m).heap (heap_is none.bounds m has) (none.sizes m has)
    where
      by : (o : Option ℕ) → IsMostOr P bounds lengths (OfMethod m) o → IsSmall o → IsMostMade P bounds lengths (OfMethod m) (unwrap_or o 0)
      by None h small = absurd small
      by (Some v) h small = h

  first_line : (m p : ℕ) → Contains ms m → (found_at table m).unbounded ≡ Some p → ((x : ℕ) → Contains ms x → x < m → (found_at table x).unbounded ≡ None) → IsFirstLackingLine P bounds m p
  first_line m p has is first =
      let least : IsLeast (LacksLoopBound P bounds m) (Some p) = subst (λ (o : Option ℕ). IsLeast (LacksLoopBound P bounds m) o) is (found m has).unbounded in
      record {
        lacks = record { within = (are m).0 has; heads = least.0.0; none = least.0.1 };
        first = λ x q before lacks.
            elim before [
              | inl lt ↦ let there = (are x).1 lacks.within in no_bound_lacks x there (first x there lt) q (lacks.heads, lacks.none)
              | inr at ↦ least.1 q at.1 (subst (λ (z : ℕ). LacksLoopBound P bounds z q) at.0 (lacks.heads, lacks.none))
            ];
      }

  first_length : (m p : ℕ) → Contains ms m → (found_at table m).unlimited ≡ Some p → ((x : ℕ) → Contains ms x → x < m → (found_at table x).unlimited ≡ None) → IsFirstLackingLength P lengths m p
  first_length m p has is first =
      let least : IsFirstUnlimitedOf P lengths m (Some p) = subst (λ (o : Option ℕ). IsFirstUnlimitedOf P lengths m o) is (found m has).unlimited in
      record {
        lacks = record { within = (are m).0 has; arrays = least.0.arrays; no_constant = least.0.no_constant; none = least.0.none };
        first = λ x q before lacks.
            elim before [
              | inl lt ↦ let there = (are x).1 lacks.within in not_lacking x q (no_length_lacks x there (first x there lt) q) lacks
              | inr at ↦ not_lacking m q (least.1 q at.1) (subst (λ (z : ℕ). LacksLength P lengths z q) at.0 lacks)
            ];
      }

  too_large : NoneLacksBound table ms → (m : ℕ) → Contains ms m → (found_at table m).heap ≡ None → ((x : ℕ) → Contains ms x → x < m → IsSmall (found_at table x).heap) → IsLeast (NeedIsTooLarge P bounds lengths) (Some m)
  too_large none m has is first = (
    ((are m).0 has, subst (λ (o : Option ℕ). IsMostOr P bounds lengths (OfMethod m) o) is (heap_is none m has)),
    λ x lt large.
        let there = (are x).1 large.0 in
        small_is none x there (first x there lt) large.1,
  )

  pub fault_is : (fault : NeedFault) → IsFoundFault table ms fault → IsFaultIn P bounds lengths fault
  fault_is (MissingBound m p) h = first_line m p h.0 h.1 h.2
  fault_is (MissingSize m p) h = (lines_are h.0, first_length m p h.1.0 h.1.1 h.1.2)
  fault_is (TooLarge m) h = (lines_are h.0, lengths_are h.1, too_large h.0 m h.2.0 h.2.1 h.2.2)
  fault_is (Recursion cycle) h = absurd h
  fault_is (Irreducible m nodes) h = absurd h
  fault_is NoMemory h = absurd h
