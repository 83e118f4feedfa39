-- What holds of methods, once all are found of an order and none of their numbers is too large.
use Rattle.std.specs.Prelude.{◌≡◌, ℕ, false, List, Contains, Option, Some}
use Rattle.method_cache.specs.Regions.Region.{AreDistinct}
use Rattle.bytecode_model.specs.Program.{Program}
use Rattle.method_flow.specs.Keeping.{BoundOf}
use Rattle.method_flow.specs.declared.timing.Timing.{Timing}
use Rattle.bound_rules.specs.Numbers.{AreNumbers}
use Rattle.bound_finder.specs.declared.known.Known.{Known}
use Rattle.bound_finder.specs.declared.methods.Methods.{Methods}
use Rattle.bound_finder.specs.Known.{BoundSetting, bounds_in, ForEach, known_at, CalleesAreKnown, IsKnownOf, AreNumbersOf}
use Rattle.bound_finder.specs.Laws.{numbers_by}
use Rattle.bound_finder.specs.Methods.{AreMethodsFound}
use Rattle.bound_finder.specs.Ready.{AreReady, IsReadyOrder}
use Rattle.bound_report.specs.declared.counts.MethodCounts.{MethodCounts}
use Rattle.bound_report.specs.Counts.{AreCountsOf}

-- the numbers that are asked
abbrev pub asked_in : List Known → ℕ → Option ℕ
asked_in table m = (known_at table m).asked

-- One method: what it may call is told, its numbers are known and none of them is too large, it can end, and it is one of an order for which all is ready.
pub record IsSettledAt (P : Program) (t : Timing) (bound_of : BoundOf) (table : List Known) (m : ℕ) : Type 0 where
  pub told : CalleesAreKnown P t table m
  pub known : IsKnownOf P t bound_of table m (known_at table m)
  pub small : (known_at table m).too_large ≡ false
  pub numbers : AreNumbersOf P t bound_of (numbers_by table) m
  pub number : ℕ
  pub is_number : asked_in table m ≡ Some number
  pub order : List ℕ
  pub ready : AreReady P bound_of order
  pub among : Contains order m

-- all methods of the order of a root
pub record IsSettled (P : Program) (t : Timing) (bound_of : BoundOf) (root : ℕ) (order : List ℕ) (table : List Known) : Type 0 where
  pub ready : IsReadyOrder P bound_of root order
  pub known : (m : ℕ) → Contains order m → IsKnownOf P t bound_of table m (known_at table m)
  pub small : (m : ℕ) → Contains order m → (known_at table m).too_large ≡ false
  pub numbers : AreNumbers P t bound_of root (numbers_by table)

-- all methods are found of an order for which all is ready
pub record AreReadyIn (set : BoundSetting) (root : ℕ) (order : List ℕ) (a : Methods) : Type 0 where
  pub distinct : AreDistinct order
  pub found : AreMethodsFound set order a
  pub ready : ForEach set (λ P. IsReadyOrder P (bounds_in set) root order)

-- these are counts of the method, whose number counts so often
pub record IsCountOf (set : BoundSetting) (table : List Known) (m count : ℕ) (k : MethodCounts) : Type 0 where
  pub method : k.method ≡ m
  pub times : k.times ≡ count
  pub counts : ForEach set (λ P. AreCountsOf P set.timing (bounds_in set) (numbers_by table) (asked_in table) k)
