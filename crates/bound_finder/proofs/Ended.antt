-- What is answered of a method, by what is known of all that may run while it does.
use Rattle.std.proofs.Common.{◌≡◌, ◌⊎◌, ℕ, ◌<◌, ◌≤◌, ◌^◌, List, Option, Some, None, refl, sym, ap, ◌∙◌, subst, inl, inr, arith}
use Rattle.std.specs.Prelude.{IfSome, unwrap_or}
use Rattle.std.proofs.lemmas.Bool.{false_from_ne_true}
use Rattle.lists.proofs.Lemmas.{map_some, if_at}
use Rattle.section_check.specs.Least.{IsLeast, lesser_of}
use Rattle.section_check.proofs.LeastLemmas.{least_either}
use Rattle.bytecode_model.specs.Program.{Program}
use Rattle.method_flow.specs.Flow.{IsFlowOf}
use Rattle.method_flow.specs.Keeping.{BoundOf}
use Rattle.method_flow.specs.Regions.IsWithin.{itself}
use Rattle.method_flow.specs.Costs.{IsPrintedOf}
use Rattle.method_flow.specs.declared.timing.Timing.{Timing}
use Rattle.bound_rules.specs.Bounding.{ExceedsSize, BoundIsTooLarge, IsFirstTooLarge}
use Rattle.bound_rules.specs.Bounding.ExceedsSize.{full as size_full, printed as size_printed, inside as size_inside, loops as size_loops}
use Rattle.bound_rules.specs.Conditions.{IsRight}
use Rattle.bound_rules.specs.Laws.{PrintedIsTold}
use Rattle.bound_rules.specs.Numbers.{Numbers, AreNumbers, IsPrinted}
use Rattle.bound_rules.specs.Told.{most_cycles}
use Rattle.compact_walks.specs.Limited.{cycles_limit, limited, limited_of}
use Rattle.bound_finder.specs.declared.known.Known.{Known}
use Rattle.bound_finder.specs.declared.ending.MethodBound.TheVariants.{Printed}
use Rattle.bound_finder.specs.Known.{BoundSetting, known_at, ExceedsBeside}
use Rattle.bound_finder.specs.Known.ExceedsBeside.{full as beside_full, inside as beside_inside, loops as beside_loops}
use Rattle.bound_finder.specs.Laws.{numbers_by}
use Rattle.bound_finder.specs.Certified.{IsCertified}
use Rattle.bound_finder.specs.Ending.{IsPastLimit, IsLargeWithin, AreSmallWithin, HasSections, AreKnownWithin, IsMethodBound}
use Rattle.bound_finder.specs.Ending.IsPastLimit.{number as beyond_number, printed as beyond_printed}
use Rattle.bound_finder.proofs.Limiting.{small_is, large_is as large_number}

-- ---- limited numbers

-- a number that is limited to one below the cycles_limit is that
same_number : (o : Option ℕ) (full : Option ℕ) → full ≡ limited_of o → IfSome full (λ n. n < cycles_limit) → o ≡ full
same_number None full e small = sym e
same_number (Some n) full e small =
    let lt = if_at full (limited n) (λ k. k < cycles_limit) e small in
    ap (λ (k : ℕ). Some k) (sym (small_is n lt)) ∙ sym e

past_number : (o full : Option ℕ) (n : ℕ) → full ≡ limited_of o → full ≡ Some n → cycles_limit ≤ n → (k : ℕ) × (o ≡ Some k) × (cycles_limit ≤ k)
past_number o full n e is past =
    let m = map_some limited o n (sym e ∙ is) in
    let P : ℕ → Type 0 = λ k. cycles_limit ≤ k in
    (m.0, m.1, large_number m.0 (subst P (sym m.2) past))

-- a number below the cycles_limit can be held
pub at_most : (o : Option ℕ) → IfSome o (λ n. n < cycles_limit) → unwrap_or o 0 ≤ most_cycles
at_most None within = omega arith
at_most (Some n) within = omega arith

-- ---- one family of numbers

module _ (P : Program) (t : Timing) (bound_of : BoundOf) (table : List Known) (least : Option ℕ) (m : ℕ) (h : AreKnownWithin P t bound_of table least m) where
  module _ (N : Numbers) (are : AreNumbers P t bound_of m N) where
    -- a method of which a number is too large, by itself
    beside_size : (x : ℕ) → ExceedsBeside P t bound_of N x → ExceedsSize P t bound_of m N x
    beside_size x (beside_full n is past) = size_full n is past
    beside_size x (beside_inside together of exceed) = size_inside together of exceed
    beside_size x (beside_loops apart of exceed) = size_loops apart of exceed

    size_cases : (x : ℕ) → ExceedsSize P t bound_of m N x → ExceedsBeside P t bound_of N x ⊎ ((x ≡ m) × ((n : ℕ) × IsPrintedOf P t (N.full m) (Some n) × (2 ^ 64 ≤ n)))
    size_cases x (size_full n is past) = inl (beside_full n is past)
    size_cases x (size_printed same n is past) = inr (same, (n, is, past))
    size_cases x (size_inside together of exceed) = inl (beside_inside together of exceed)
    size_cases x (size_loops apart of exceed) = inl (beside_loops apart of exceed)

    -- one that is known to be
    large_is : (x : ℕ) → IsLargeWithin P table m x → BoundIsTooLarge P t bound_of m N x
    large_is x large = (large.0, beside_size x ((h.agree N are x large.0).1.0 large.1))

    large_cases : (x : ℕ) → BoundIsTooLarge P t bound_of m N x → IsLargeWithin P table m x ⊎ ((x ≡ m) × ((n : ℕ) × IsPrintedOf P t (N.full m) (Some n) × (2 ^ 64 ≤ n)))
    large_cases x large =
        elim (size_cases x large.1) [
          | inl other ↦ inl (large.0, (h.agree N are x large.0).1.1 other)
          | inr printed ↦ inr printed
        ]

    -- where what is printed is small
    module _ (told : PrintedIsTold) (full : Option ℕ) (is : full ≡ (known_at table m).full) where
      full_agrees : full ≡ limited_of (N.full m)
      full_agrees = is ∙ (h.agree N are m itself).0.full

      not_printed : (bound : Option ℕ) → IfSome full (λ n. n < cycles_limit) → IfSome bound (λ n. n < cycles_limit) → IsPrintedOf P t full bound → (n : ℕ) → IsPrintedOf P t (N.full m) (Some n) → 2 ^ 64 ≤ n → ⊥
      not_printed bound small within printed n other past =
          let O : Option ℕ → Type 0 = λ o. IsPrintedOf P t o (Some n) in
          let e : bound ≡ Some n = told P t full bound (Some n) printed (subst O (same_number (N.full m) full full_agrees small) other) in
          let lt = if_at bound n (λ k. k < cycles_limit) e within in
          omega arith

      past_size : (set : BoundSetting) → set.timing ≡ t → IsFlowOf P set.flow → IsPastLimit set full → ExceedsSize P t bound_of m N m
      past_size set timing of (beyond_number n e over) = let k = past_number (N.full m) full n full_agrees e over in size_full k.0 k.1 k.2
      past_size set timing of (beyond_printed n small over printed) =
          let T : Timing → Type 0 = λ x. IsPrintedOf P x full (Some n) in
          let O : Option ℕ → Type 0 = λ o. IsPrintedOf P t o (Some n) in
          size_printed refl n (subst O (sym (same_number (N.full m) full full_agrees small)) (subst T timing (printed P of))) over

  -- ---- the three answers

  none_large : least ≡ None → (x : ℕ) → IsLargeWithin P table m x → ⊥
  none_large e = let L : Option ℕ → Type 0 = λ o. IsLeast (IsLargeWithin P table m) o in subst L e h.is_least

  pub all_small : least ≡ None → AreSmallWithin P table m
  all_small e x within = false_from_ne_true (known_at table x).too_large (λ large. none_large e x (within, large))

  certified : (bound : Option ℕ) → HasSections P t bound_of table m → IsRight P t (known_at table m).full bound → IsCertified P t bound_of m bound
  certified bound s right = record {
    certificate = record { version = 2; root = m; sections = s.sections; bound = bound };
    meets = record { values = s.values; sections = s.meet; coded = s.coded; full = (known_at table m).full; says = s.says; right = right };
    of_method = refl;
    says = refl;
  }

  module _ (told : PrintedIsTold) (full : Option ℕ) (is : full ≡ (known_at table m).full) where
    pub printed_bound : (bound : Option ℕ) → least ≡ None → IfSome full (λ n. n < cycles_limit) → IfSome bound (λ n. n < cycles_limit) → IsPrintedOf P t full bound → IsMethodBound P t bound_of m (Printed bound)
    printed_bound bound none small within printed =
        let O : Option ℕ → Type 0 = λ o. IsPrintedOf P t o bound in
        let of_root : IsPrintedOf P t (known_at table m).full bound = subst O is printed in
        let one : IsPrinted P t bound_of m bound = record { numbers = numbers_by table; are = h.known (all_small none); of_root = of_root } in (
          one,
          λ N are x large.
              elim (large_cases N are x large) [
                | inl known ↦ none_large none x known
                | inr other ↦ not_printed N are told full is bound small within printed other.1.0 other.1.1 other.1.2
              ],
          certified bound (h.sections (all_small none)) (record { printed = of_root; small = at_most bound within }),
        )

    pub least_bound : (x : ℕ) (bound : Option ℕ) → least ≡ Some x → IfSome full (λ n. n < cycles_limit) → IfSome bound (λ n. n < cycles_limit) → IsPrintedOf P t full bound → IsFirstTooLarge P t bound_of m x
    least_bound x bound some small within printed =
        let L : Option ℕ → Type 0 = λ o. IsLeast (IsLargeWithin P table m) o in
        let first : IsLeast (IsLargeWithin P table m) (Some x) = subst L some h.is_least in
        λ N are. (
          large_is N are x first.0,
          λ u less large.
              elim (large_cases N are u large) [
                | inl known ↦ first.1 u less known
                | inr other ↦ not_printed N are told full is bound small within printed other.1.0 other.1.1 other.1.2
              ],
        )

    pub past_bound : (set : BoundSetting) (x : ℕ) → set.timing ≡ t → IsFlowOf P set.flow → IsPastLimit set full → Some x ≡ lesser_of least (Some m) → IsFirstTooLarge P t bound_of m x
    past_bound set x timing of over lesser =
        λ N are.
        let L : Option ℕ → Type 0 = λ o. IsLeast (BoundIsTooLarge P t bound_of m N) o in
        let here : BoundIsTooLarge P t bound_of m N m = (itself, past_size N are told full is set timing of over) in
        subst L (sym lesser)
        (least_either (IsLargeWithin P table m) (λ u. u ≡ m) (BoundIsTooLarge P t bound_of m N) least (Some m) (large_is N are) (λ u same. let T : ℕ → Type 0 = λ y. BoundIsTooLarge P t bound_of m N y in subst T (sym same) here) (λ u large.
        elim (large_cases N are u large) [ inl known ↦ inl known | inr other ↦ inr other.0 ]) h.is_least (refl, λ u less same. absurd (omega arith)))
