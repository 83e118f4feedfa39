-- Where the number that is printed of a method comes from: the visits of one greatest walk of each method that may run, times how often its number counts.
use Rattle.std.specs.Prelude.{◌≡◌, ℕ, ◌+◌, ◌*◌, ◌/◌, nat_lt, List, [], ◌∷◌, map, filter, sum_by, All, Contains, Option, Some}
use Rattle.std.specs.List.{flat_map}
use Rattle.method_cache.specs.Regions.Region.{AreDistinct}
use Rattle.bytecode_model.specs.Program.{Program}
use Rattle.method_flow.specs.Keeping.{BoundOf}
use Rattle.method_flow.specs.Regions.{IsGreatestLoad}
use Rattle.method_flow.specs.Costs.{params, IsPrintedOf}
use Rattle.method_flow.specs.declared.timing.Timing.{Timing}
use Rattle.micro_flow.specs.Costs.{IsGreatestInvoke}
use Rattle.bound_rules.specs.Numbers.{Numbers, AreNumbers}
use Rattle.bound_report.specs.declared.counts.NodeCount.{NodeCount}
use Rattle.bound_report.specs.declared.counts.MethodCounts.{MethodCounts}
use Rattle.bound_report.specs.declared.contents.rows.ReportRow.{ReportRow}
use Rattle.bound_report.specs.Contents.Rows.{AreOfCode, cycles_of}
use Rattle.bound_report.specs.declared.reports.Report.{Report}
use Rattle.bound_report.specs.Counts.{IsMore, AreCountsOf}
use Rattle.bound_report.specs.Times.{methods_of, AreTimes, AreOrdered}

-- Of each method whose number counts, callers first: how often, and its counts; by numbers that are those of the root and of all that may run while it does.
pub record AreRootCounts (P : Program) (t : Timing) (bound_of : BoundOf) (root bound : ℕ) (ks : List MethodCounts) : Type 0 where
  pub numbers : Numbers
  pub are : AreNumbers P t bound_of root numbers
  pub printed : IsPrintedOf P t (numbers.full root) (Some bound)
  pub asked : ℕ → Option ℕ
  pub each : All (AreCountsOf P t bound_of numbers asked) ks
  pub distinct : AreDistinct (methods_of ks)
  pub rooted : Contains (methods_of ks) root
  pub ordered : AreOrdered ks []
  pub times : AreTimes root [] ks

-- ---- parts

-- a node with all its visits, and what it takes by itself there
abbrev pub row_of : MethodCounts → NodeCount → ReportRow
row_of k c = record { method = k.method; place = c.node / 2; visits = k.times * c.visits; cycles = k.times * c.visits * c.own }

-- each node that is visited
abbrev pub rows_of : List MethodCounts → List ReportRow
rows_of ks = filter (λ r. nat_lt 0 r.visits) (flat_map (λ k. map (row_of k) k.nodes.items) ks)

-- the sum of the products of two lists
abbrev pub products : List ℕ → List ℕ → ℕ
products [] ys = 0
products (x ∷ xs) [] = 0
products (x ∷ xs) (y ∷ ys) = x * y + products xs ys

-- what a method pays for loads: at the entries of its loops, and at its calls
abbrev pub loads_in : MethodCounts → ℕ
loads_in k = k.times * (products k.entered.items k.fees.items + sum_by (λ c. c.visits * c.loads) k.nodes.items)

-- the parts of the number that is printed of the root
pub record IsReportOf (P : Program) (t : Timing) (bound_of : BoundOf) (root : ℕ) (r : Report) : Type 0 where
  pub counts : List MethodCounts
  pub are : AreRootCounts P t bound_of root r.totals.bound counts
  pub rows : r.rows.items ≡ rows_of counts
  pub more : ℕ
  pub is_more : IsMore P t root more
  pub loads : r.totals.loads ≡ more + sum_by loads_in counts
  pub invoke : IsGreatestInvoke (params t 0 0) r.totals.invoke
  pub back : IsGreatestLoad P t.read r.totals.back

-- The number is the sum of its parts: the dearest invoke, what each node takes by itself, the loads, and the greatest load when control comes back.
abbrev pub PartsAddUp : Type 0
PartsAddUp = (P : Program) (t : Timing) (bound_of : BoundOf) (root : ℕ) (r : Report) → IsReportOf P t bound_of root r
    → r.totals.bound ≡ r.totals.invoke + cycles_of r.rows.items + r.totals.loads + r.totals.back

-- Each row is of a place of the method's code.
abbrev pub RowsAreOfCode : Type 0
RowsAreOfCode = (P : Program) (t : Timing) (bound_of : BoundOf) (root : ℕ) (r : Report) → IsReportOf P t bound_of root r → AreOfCode P r.rows.items
