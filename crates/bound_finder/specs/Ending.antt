-- What is answered of a method, once what may run while it does is known.
use Rattle.std.specs.Prelude.{◌≡◌, ◌↔◌, ℕ, ◌<◌, ◌≤◌, true, false, List, [], Option, Some, None, IfSome, IsSome, IsTrue}
use Rattle.method_cache.specs.Regions.Region.{AreDistinct}
use Rattle.section_check.specs.Least.{IsLeast}
use Rattle.bytecode_model.specs.Program.{Program, body_of}
use Rattle.certificates.specs.declared.cert.CertSection.{CertSection}
use Rattle.method_flow.specs.Keeping.{BoundOf}
use Rattle.method_flow.specs.Regions.{IsWithin}
use Rattle.method_flow.specs.Costs.{IsPrintedOf}
use Rattle.method_flow.specs.declared.timing.Timing.{Timing}
use Rattle.bound_rules.specs.Bounding.{IsFirstTooLarge, KeepSize}
use Rattle.bound_rules.specs.Conditions.{MeetAll}
use Rattle.bound_rules.specs.Numbers.{Numbers, AreNumbers, IsPrinted}
use Rattle.bound_rules.specs.Told.{Valued, SaysFull}
use Rattle.compact_walks.specs.Limited.{cycles_limit}
use Rattle.bound_finder.specs.declared.known.Known.{Known}
use Rattle.bound_finder.specs.declared.ending.MethodBound.{MethodBound}
use Rattle.bound_finder.specs.declared.ending.MethodBound.TheVariants.{Printed, TooLarge}
use Rattle.bound_finder.specs.declared.methods.Methods.{Methods}
use Rattle.bound_finder.specs.Known.{BoundSetting, bounds_in, ForEach, known_at, Agrees, ExceedsBeside}
use Rattle.bound_finder.specs.Laws.{numbers_by}
use Rattle.bound_finder.specs.Methods.{AreMethodsFound}
use Rattle.bound_finder.specs.Ready.{IsReadyOrder}
pub use Rattle.bound_finder.specs.Certified.{IsCertified}

-- ---- what is printed

-- A method's number with all loads is past 64 bits, or it isn't, but what is printed then is.
pub data IsPastLimit (set : BoundSetting) (full : Option ℕ) : Type 0 where
  number : (n : ℕ) → full ≡ Some n → cycles_limit ≤ n → IsPastLimit set full
  printed : (n : ℕ) → IfSome full (λ f. f < cycles_limit) → cycles_limit ≤ n → ForEach set (λ P. IsPrintedOf P set.timing full (Some n)) → IsPastLimit set full

-- this is printed where the number with all loads is `full`, and both are within 64 bits
pub record IsPrintedSmall (set : BoundSetting) (full bound : Option ℕ) : Type 0 where
  pub small : IfSome full (λ f. f < cycles_limit)
  pub within : IfSome bound (λ b. b < cycles_limit)
  pub printed : ForEach set (λ P. IsPrintedOf P set.timing full bound)

-- ---- what is known of all that may run

-- a method that may run while m does has a number that is too large
abbrev pub IsLargeWithin : Program → List Known → (m large : ℕ) → Type 0
IsLargeWithin P table m x = IsWithin P m x × ((known_at table x).too_large ≡ true)

-- none of all that may run while m does has one
abbrev pub AreSmallWithin : Program → List Known → (m : ℕ) → Type 0
AreSmallWithin P table m = (x : ℕ) → IsWithin P m x → (known_at table x).too_large ≡ false

-- sections that meet their conditions one behind the other say of the method m, with all its loads, what is known of it
pub record HasSections (P : Program) (t : Timing) (bound_of : BoundOf) (table : List Known) (m : ℕ) : Type 0 where
  pub sections : List CertSection
  pub values : List Valued
  pub meet : MeetAll P t bound_of [] sections values
  pub coded : IsSome (body_of P m)
  pub says : SaysFull P t values m (Some (known_at table m).full)

-- Of all that may run while m does: every family of numbers of m agrees with what is known, and has a number that is too large just where that is
-- known; and where none is too large, the numbers that are known are those of m, and there are sections that say so. The least of those with one that
-- is too large is `least`.
pub record AreKnownWithin (P : Program) (t : Timing) (bound_of : BoundOf) (table : List Known) (least : Option ℕ) (m : ℕ) : Type 0 where
  pub agree : (N : Numbers) → AreNumbers P t bound_of m N → (x : ℕ) → IsWithin P m x
      → Agrees P t N x (known_at table x) × (IsTrue (known_at table x).too_large ↔ ExceedsBeside P t bound_of N x)
  pub known : AreSmallWithin P table m → AreNumbers P t bound_of m (numbers_by table)
  pub sections : AreSmallWithin P table m → HasSections P t bound_of table m
  pub is_least : IsLeast (IsLargeWithin P table m) least

-- ---- the answer

-- what `bound` answers of a method: what is printed of it, where no number of all that may run is too large, which a certificate says; or the least
-- method with one that is
abbrev pub IsMethodBound : Program → Timing → BoundOf → (method : ℕ) → MethodBound → Type 0
IsMethodBound P t bound_of m (Printed bound) = IsPrinted P t bound_of m bound × KeepSize P t bound_of m × IsCertified P t bound_of m bound
IsMethodBound P t bound_of m (TooLarge x) = IsFirstTooLarge P t bound_of m x

-- where something is printed, no number is known to be too large, and it is told by the number with all loads
abbrev pub IsPrintedBy : BoundSetting → List Known → (least : Option ℕ) → (method : ℕ) → MethodBound → Type 0
IsPrintedBy set table least m (Printed bound) = (least ≡ None) × IsPrintedSmall set (known_at table m).full bound
IsPrintedBy set table least m (TooLarge x) = Unit {0}

-- all methods are found of an order for which all is ready
pub record AreReadyFound (set : BoundSetting) (root : ℕ) (a : Methods) : Type 0 where
  pub order : List ℕ
  pub distinct : AreDistinct order
  pub found : AreMethodsFound set order a
  pub ready : ForEach set (λ P. IsReadyOrder P (bounds_in set) root order)
