-- What is known of methods: their numbers, of which those past 64 bits count as 2^64, and whether one of them is too large.
use Rattle.std.specs.Prelude.{◌≡◌, ◌↔◌, ℕ, ◌+◌, ◌^◌, ◌≤◌, ◌<◌, false, List, Some, None, IsSome, IsTrue, IfSome, slice_index_or, option_map}
use Rattle.bound_texts.specs.Loops.Bounds.{LoopBound}
use Rattle.path_solver.specs.Longest.{IterationsExceed}
use Rattle.bytecode_model.specs.Program.{Program}
use Rattle.method_flow.specs.Flow.{Flow, IsFlowOf}
use Rattle.method_flow.specs.Keeping.{BoundOf}
use Rattle.method_flow.specs.Live.{CanEnd}
use Rattle.method_flow.specs.Recursion.{MayCall}
use Rattle.method_flow.specs.declared.timing.Timing.{Timing}
use Rattle.method_flow.specs.Costs.{params}
use Rattle.method_flow.specs.Regions.{load, IsGreatestLoad}
use Rattle.micro_flow.specs.Costs.{IsGreatestInvoke}
use Rattle.node_costs.specs.Costs.{bounds_of}
use Rattle.bound_rules.specs.Fitting.{RegionFits, loads_of}
use Rattle.bound_rules.specs.Numbers.{Numbers, IsInside, IsLoops, IsFull, charged_loops, no_fees}
use Rattle.compact_walks.specs.Limited.{cycles_limit, limited, limited_of}
use Rattle.bound_finder.specs.declared.known.Known.{Known}

-- a program's table, the bounds of its loops and the timing of the machine
pub record BoundSetting : Type 0 where
  pub flow : Flow
  pub bounds : List LoopBound
  pub timing : Timing

-- the waits and sizes that are asked for
pub record IsBoundSetting (s : BoundSetting) : Type 0 where
  pub read : s.timing.read ≤ 63
  pub write : s.timing.write ≤ 63
  pub sizes : 0 < s.timing.block_words

abbrev pub bounds_in : BoundSetting → BoundOf
bounds_in s = bounds_of s.flow s.bounds

-- this holds for each program of the table
abbrev pub ForEach : BoundSetting → (Program → Type 0) → Type 0
ForEach s Holds = (P : Program) → IsFlowOf P s.flow → Holds P

-- the dearest invoke takes at most so many cycles under the timing, and the greatest load of a method of the table is this
pub record IsTask (s : BoundSetting) (invoke greatest_load : ℕ) : Type 0 where
  pub setting : IsBoundSetting s
  pub is_invoke : IsGreatestInvoke (params s.timing 0 0) invoke
  pub is_load : ForEach s (λ P. IsGreatestLoad P s.timing.read greatest_load)

-- ---- what is known

-- of a method of which nothing is known
abbrev pub unknown : Known
unknown = record { fits = false; asked = None; full = None; too_large = false }

abbrev pub known_at : List Known → (method : ℕ) → Known
known_at table m = slice_index_or table m unknown

-- numbers past 64 bits count as 2^64
pub record IsLimited (k : Known) : Type 0 where
  pub asked : IfSome k.asked (λ n. n ≤ cycles_limit)
  pub full : IfSome k.full (λ n. n ≤ cycles_limit)

-- ---- families of numbers

-- the family has the numbers of the method that are asked of it
pub record AreNumbersOf (P : Program) (t : Timing) (bound_of : BoundOf) (N : Numbers) (m : ℕ) : Type 0 where
  pub inside : RegionFits P t m → IsInside P t bound_of N m
  pub loops : ¬ RegionFits P t m → IsLoops P t bound_of N m
  pub full : IsFull P t N m

-- it has these numbers, but that those past 64 bits are not told apart
pub record Agrees (P : Program) (t : Timing) (N : Numbers) (m : ℕ) (k : Known) : Type 0 where
  pub inside : RegionFits P t m → k.asked ≡ limited_of (N.inside m)
  pub loops : ¬ RegionFits P t m → k.asked ≡ limited_of (N.loops m)
  pub full : k.full ≡ limited_of (N.full m)

-- it has exactly these
pub record HasNumbers (P : Program) (t : Timing) (N : Numbers) (m : ℕ) (k : Known) : Type 0 where
  pub inside : RegionFits P t m → N.inside m ≡ k.asked
  pub loops : ¬ RegionFits P t m → N.loops m ≡ k.asked
  pub full : N.full m ≡ k.full

-- a number of the method is too large, or iterations of its loops are so together, under the costs of the number that is asked of it; what is printed apart
pub data ExceedsBeside (P : Program) (t : Timing) (bound_of : BoundOf) (N : Numbers) (m : ℕ) : Type 0 where
  full : (n : ℕ) → N.full m ≡ Some n → 2 ^ 64 ≤ n → ExceedsBeside P t bound_of N m
  inside : RegionFits P t m → (h : IsInside P t bound_of N m) → IterationsExceed h.flow.graph h.costs (charged_loops h.flow (no_fees h.flow))
      → ExceedsBeside P t bound_of N m
  loops : ¬ RegionFits P t m → (h : IsLoops P t bound_of N m) → IterationsExceed h.flow.graph h.costs (charged_loops h.flow h.fees)
      → ExceedsBeside P t bound_of N m

-- ---- one method

-- the number with all loads, by the one that is asked: with the loads of all that may run where these fit the cache together, and else with those of
-- the method itself
pub data IsFullBy (P : Program) (t : Timing) (m : ℕ) (k : Known) : Type 0 where
  fits : (together : RegionFits P t m) → k.full ≡ option_map (λ n. limited (n + loads_of together)) k.asked → IsFullBy P t m k
  exceeds : ¬ RegionFits P t m → k.full ≡ option_map (λ n. limited (n + load P t.read m)) k.asked → IsFullBy P t m k

-- what is said of a method whatever its numbers: whether what may run while it does fits the cache together, whether it can end, and what its number
-- with all loads has beside the one that is asked of it
pub record IsToldOf (P : Program) (t : Timing) (m : ℕ) (k : Known) : Type 0 where
  pub fits : IsTrue k.fits ↔ RegionFits P t m
  pub asked : IsSome k.asked ↔ CanEnd P m
  pub full : IsSome k.full ↔ CanEnd P m
  pub sum : IsFullBy P t m k

-- of all that a method may call
abbrev pub CalleesAreKnown : Program → Timing → List Known → (method : ℕ) → Type 0
CalleesAreKnown P t table m = (x : ℕ) → MayCall P m x → IsToldOf P t x (known_at table x)

-- What is known of a method, by what is known of all that it may call: every family of numbers that agrees on these agrees on it, and has a number of
-- it that is too large exactly where that is known; and where none is, the family that has exactly these numbers has those of the method.
pub record IsKnownOf (P : Program) (t : Timing) (bound_of : BoundOf) (table : List Known) (m : ℕ) (k : Known) : Type 0 where
  pub told : IsToldOf P t m k
  pub agrees : (N : Numbers) → ((x : ℕ) → MayCall P m x → Agrees P t N x (known_at table x)) → AreNumbersOf P t bound_of N m → Agrees P t N m k
  pub exceeds : (N : Numbers) → ((x : ℕ) → MayCall P m x → Agrees P t N x (known_at table x)) → AreNumbersOf P t bound_of N m
      → IsTrue k.too_large ↔ ExceedsBeside P t bound_of N m
  pub found : k.too_large ≡ false → (N : Numbers) → ((x : ℕ) → MayCall P m x → HasNumbers P t N x (known_at table x)) → HasNumbers P t N m k
      → AreNumbersOf P t bound_of N m
