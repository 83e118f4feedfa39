-- What follows for each program of the table.
use Rattle.std.specs.Prelude.{◌≡◌, ◌⊎◌, ℕ, List, All, Some, slice_get}
use Rattle.path_solver.specs.Regions.{charged}
use Rattle.bytecode_model.specs.Program.{Program}
use Rattle.method_flow.specs.Flow.{Coded, IsCoded, IsFlowOf}
use Rattle.bound_report.specs.declared.visits.WalkCounts.{WalkCounts}
use Rattle.bound_finder.specs.declared.known.Known.{Known}
use Rattle.bound_finder.specs.declared.prepared.Prepared.{Prepared}
use Rattle.bound_finder.specs.declared.found.Walked.TheVariants.{Never, Large}
use Rattle.bound_finder.specs.Known.{BoundSetting, IsBoundSetting, bounds_in, IsLimited}
use Rattle.bound_finder.specs.Laws.{numbers_by}
use Rattle.bound_finder.specs.Prepared.{IsInShape, IsPreparedFor}
use Rattle.bound_finder.specs.Found.{IsWalked}
use Rattle.compact_walks.specs.Limited.{cycles_limit}
use Rattle.bound_report.specs.declared.counts.MethodCounts.{MethodCounts}
use Rattle.bound_report.specs.Counts.{AreCountsOf}
use Rattle.bound_report.specs.Walks.{AreWalkCounts}
use Rattle.bound_report.specs.Nodes.{AreNodesOf}
use Rattle.bound_report.specs.Settled.{asked_in, IsSettledAt}

-- a method of the table that is prepared for a program and settled there
pub record IsPreparedIn (P : Program) (set : BoundSetting) (table : List Known) (m : ℕ) (k : Coded) (p : Prepared) : Type 0 where
  pub waits : IsBoundSetting set
  pub flow : IsFlowOf P set.flow
  pub at : slice_get set.flow.methods m ≡ Some k
  pub coded : IsCoded k
  pub limited : All IsLimited table
  pub settled : IsSettledAt P set.timing (bounds_in set) table m
  pub shape : IsInShape p
  pub prepared : IsPreparedFor P set.timing (bounds_in set) table m p

-- the counts of its walk are counts of the method
abbrev pub CountsAreOfWalks : Type 0
CountsAreOfWalks =
    (P : Program) (set : BoundSetting) (table : List Known) (m : ℕ) (coded : Coded) (p : Prepared) (w : WalkCounts) (k : MethodCounts)
    → IsPreparedIn P set table m coded p
    → AreWalkCounts p w → k.method ≡ m → AreNodesOf set m table p w.visits.items k.nodes.items → k.entered.items ≡ w.entered.items
    → k.fees.items ≡ charged p.charges.loads.items p.charges.flags.items
    → AreCountsOf P set.timing (bounds_in set) (numbers_by table) (asked_in table) k

-- its walks end, and none of them and none of its nodes costs too much
abbrev pub SettledAreWalked : Type 0
SettledAreWalked =
    (P : Program) (set : BoundSetting) (table : List Known) (m : ℕ) (k : Coded) (p : Prepared) → IsPreparedIn P set table m k p
    → IsWalked p Never ⊎ IsWalked p (Large cycles_limit) → ⊥
