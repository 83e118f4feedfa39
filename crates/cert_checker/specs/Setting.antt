-- What is known of a program before the sections of a certificate are checked, and of the sections that were checked.
use Rattle.std.specs.Prelude.{◌≡◌, ℕ, ◌<◌, ◌≤◌, ◌^◌, Bool, true, false, List, length, Option, Some, None, IfSome, slice_get, slice_set}
use Rattle.bound_texts.specs.Loops.Bounds.{LoopBound}
use Rattle.bytecode_model.specs.Program.{Program}
use Rattle.method_flow.specs.Flow.{Flow, IsFlowOf}
use Rattle.method_flow.specs.declared.timing.Timing.{Timing}
use Rattle.node_costs.specs.Costs.{method_load}
use Rattle.bound_rules.specs.Fitting.{RegionFits, LoopFits, loads_of}
use Rattle.bound_rules.specs.Told.{Value, Valued, value_in, with_cycles, SaysFull}
use Rattle.cert_checker.specs.declared.values.SectionValue.{SectionValue}
use Rattle.cert_checker.specs.declared.task.Fit.{Fit}
use Rattle.cert_checker.specs.declared.task.Fit.TheVariants.{Fits, Exceeds}

-- a program's table, the bounds of its loops, the timing of the machine, and of each method whether all that may run while it does fits the cache together
pub record CheckSetting : Type 0 where
  pub flow : Flow
  pub bounds : List LoopBound
  pub timing : Timing
  pub fits : List Fit

-- what it says of a method: the loads of all that may run while it does, where these fit the cache together
pub data IsFit (P : Program) (t : Timing) (m : ℕ) (fit : Fit) : Type 0 where
  fits : (together : RegionFits P t m) → fit ≡ Fits (loads_of together) → IsFit P t m fit
  exceeds : ¬ RegionFits P t m → fit ≡ Exceeds → IsFit P t m fit

-- it is said of each method of the table
pub record AreFits (f : Flow) (t : Timing) (fits : List Fit) : Type 0 where
  pub long : length fits ≡ length f.methods
  pub each : (P : Program) → IsFlowOf P f → (m : ℕ) (fit : Fit) → slice_get fits m ≡ Some fit → IsFit P t m fit

-- the waits and sizes that are asked for
pub record IsTiming (t : Timing) : Type 0 where
  pub read : t.read ≤ 63
  pub write : t.write ≤ 63
  pub sizes : 0 < t.block_words

pub record IsCheckSetting (s : CheckSetting) : Type 0 where
  pub timing : IsTiming s.timing
  pub fits : AreFits s.flow s.timing s.fits

-- ---- sections that were checked

-- a value as the definitions have it
abbrev pub valued_of : SectionValue → Valued
valued_of v = record { method = v.method; inside = v.inside; value = v.value }

-- their values, in order, all of them of so many methods
pub record SectionValues : Type 0 where
  pub valued : List Valued
  pub methods : ℕ

-- for each of so many methods the first value of a section that is inside, or of one of another kind
pub record AreFirst (inside : Bool) (v : SectionValues) (firsts : List (Option Value)) : Type 0 where
  pub long : length firsts ≡ v.methods
  pub each : (m : ℕ) → m < v.methods → slice_get firsts m ≡ Some (value_in inside m v.valued)

-- a number that is said is of so many bits
abbrev pub IsWithinBits : (bits : ℕ) → Option Value → Type 0
IsWithinBits bits said = IfSome said (λ value. IfSome value (λ n. n < 2 ^ bits))

-- a value put down for a method that has none
abbrev pub first_with : List (Option Value) → (method : ℕ) → (value : Value) → Option (Option Value) → List (Option Value)
first_with firsts m value (Some None) = slice_set firsts m (Some value)
first_with firsts m value said = firsts

abbrev pub with_first : List (Option Value) → (method : ℕ) → (value : Value) → List (Option Value)
with_first firsts m value = first_with firsts m value (slice_get firsts m)

-- what they say of a method with all its loads, by whether its region fits
abbrev pub full_by : CheckSetting → List Valued → (method : ℕ) → Option Fit → Option Value
full_by s earlier m None = None
full_by s earlier m (Some (Fits cycles)) = with_cycles cycles (value_in true m earlier)
full_by s earlier m (Some Exceeds) = with_cycles (method_load s.timing.read s.flow.methods m) (value_in false m earlier)

abbrev pub full_of : CheckSetting → List Valued → (method : ℕ) → Option Value
full_of s earlier m = full_by s earlier m (slice_get s.fits m)

-- it is what the conditions ask for
abbrev pub FullIsSaid : Type 0
FullIsSaid = (s : CheckSetting) (P : Program) (earlier : List Valued) (m : ℕ) → IsCheckSetting s → IsFlowOf P s.flow → m < length s.flow.methods
    → SaysFull P s.timing earlier m (full_of s earlier m)

-- what an entry of a region pays: the loads of the methods that may run among the members, and none where these don't fit the cache together
pub data IsRegionFee (P : Program) (t : Timing) (m : ℕ) (members : List ℕ) (fee : Option ℕ) : Type 0 where
  fits : (together : LoopFits P t m members) → fee ≡ Some (loads_of together) → IsRegionFee P t m members fee
  exceeds : ¬ LoopFits P t m members → fee ≡ None → IsRegionFee P t m members fee
