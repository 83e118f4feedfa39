-- What is known of all that may run while a method does, where it is one of an order in which each stands behind all that it may call.
use Rattle.std.proofs.Common.{◌≡◌, ◌↔◌, ℕ, zero, suc, ◌<◌, false, List, length, get_or, Contains, refl, sym, ap, ◌∙◌, arith}
use Rattle.std.specs.Prelude.{slice_get, IsTrue, Some}
use Rattle.std.proofs.lemmas.List.{length-take-le, get_or-take}
use Rattle.std.proofs.lemmas.Option.{slice_get-get_or, slice_get_within, get_or_from_slice_get}
use Rattle.bytecode_model.specs.Program.{Program}
use Rattle.method_flow.specs.Keeping.{BoundOf}
use Rattle.method_flow.specs.Recursion.{MayCall}
use Rattle.method_flow.specs.declared.timing.Timing.{Timing}
use Rattle.method_flow.specs.Regions.{IsWithin}
use Rattle.method_flow.specs.Regions.IsWithin.{itself, calls}
use Rattle.bound_rules.specs.Numbers.{Numbers, AreNumbers}
use Rattle.bound_finder.specs.declared.known.Known.{Known}
use Rattle.bound_finder.specs.Known.{known_at, IsKnownOf, Agrees, HasNumbers, AreNumbersOf, ExceedsBeside}
use Rattle.bound_finder.specs.Laws.{numbers_by}
use Rattle.bound_finder.specs.Ready.{AreBehindCalls}

-- what a method within calls is within
pub within_call : (P : Program) (m x y : ℕ) → IsWithin P m x → MayCall P x y → IsWithin P m y
within_call P m x y (itself {m = z}) call = calls call.place call.start call.call call.is_target itself
within_call P m x y (calls {m = a} {t = t} {x = b} p start invoke target rest) call = calls p start invoke target (within_call P t b y rest call)

module _ (P : Program) (t : Timing) (bound_of : BoundOf) (order : List ℕ) (table : List Known) (behind : AreBehindCalls P order) (known : (x : ℕ) → Contains order x → IsKnownOf P t bound_of table x (known_at table x)) where
  -- where a method stands
  pub at : (x : ℕ) → Contains order x → (i : ℕ) × (i < length order) × (slice_get order i ≡ Some x)
  at x has = (has.0, has.1, slice_get-get_or order has.0 x has.1 ∙ ap (λ (y : ℕ). Some y) has.2)

  pub among : (i x : ℕ) → slice_get order i ≡ Some x → Contains order x
  among i x is = (i, slice_get_within order i x is, get_or_from_slice_get order i x x is)

  -- what it may call stands before it
  pub before : (i x y : ℕ) → slice_get order i ≡ Some x → MayCall P x y → (j : ℕ) × (j < i) × (slice_get order j ≡ Some y)
  before i x y is call =
      let inside = slice_get_within order i x is in
      let has = behind i x y is call in
      let long = length-take-le i order (omega arith) in
      let lt = has.1 in
      let less : has.0 < i = omega arith in
      let here : get_or order has.0 y ≡ y = sym (get_or-take i order has.0 y less) ∙ has.2 in
      (has.0, less, slice_get-get_or order has.0 y (omega arith) ∙ ap (λ (z : ℕ). Some z) here)

  pub called_among : (x y : ℕ) → Contains order x → MayCall P x y → Contains order y
  called_among x y has call = let i = at x has in let j = before i.0 x y i.2 call in among j.0 y j.2

  pub within_among : (m x : ℕ) → Contains order m → IsWithin P m x → Contains order x
  within_among m x has (itself {m = z}) = has
  within_among m x has (calls {m = a} {t = u} {x = b} p start invoke target rest) = within_among u b (called_among a u has (record { place = p; start = start; call = invoke; is_target = target })) rest

  module _ (m : ℕ) (has : Contains order m) where
    module _ (N : Numbers) (are : AreNumbers P t bound_of m N) where
      numbers_of : (x : ℕ) → IsWithin P m x → AreNumbersOf P t bound_of N x
      numbers_of x within = record { inside = are.inside x within; loops = are.loops x within; full = are.full x within }

      agree : (n i x : ℕ) → i < n → slice_get order i ≡ Some x → IsWithin P m x → Agrees P t N x (known_at table x)
      agree zero i x lt is within = absurd (omega arith)
      agree (suc n) i x lt is within = (known x (among i x is)).agrees N (λ y call. let j = before i x y is call in let less = j.1 in agree n j.0 y (omega arith) j.2 (within_call P m x y within call)) (numbers_of x within)

      pub agree_within : (x : ℕ) → IsWithin P m x → Agrees P t N x (known_at table x)
      agree_within x within = let i = at x (within_among m x has within) in agree (suc i.0) i.0 x (omega arith) i.2 within

      pub exceed_within : (x : ℕ) → IsWithin P m x → IsTrue (known_at table x).too_large ↔ ExceedsBeside P t bound_of N x
      exceed_within x within = (known x (within_among m x has within)).exceeds N (λ y call. agree_within y (within_call P m x y within call)) (numbers_of x within)

    module _ (small : (x : ℕ) → IsWithin P m x → (known_at table x).too_large ≡ false) where
      has_numbers : (x : ℕ) → HasNumbers P t (numbers_by table) x (known_at table x)
      has_numbers x = record { inside = λ together. refl; loops = λ apart. refl; full = refl }

      of_method : (x : ℕ) → IsWithin P m x → AreNumbersOf P t bound_of (numbers_by table) x
      of_method x within = (known x (within_among m x has within)).found (small x within) (numbers_by table) (λ y call. has_numbers y) (has_numbers x)

      pub numbers_within : AreNumbers P t bound_of m (numbers_by table)
      numbers_within = record {
        inside = λ x within. (of_method x within).inside;
        loops = λ x within. (of_method x within).loops;
        full = λ x within. (of_method x within).full;
      }
