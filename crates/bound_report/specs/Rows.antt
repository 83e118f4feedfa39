-- Rows that are added, where their numbers are within 128 bits.
use Rattle.std.specs.Prelude.{◌≡◌, ◌*◌, ◌^◌, ◌<◌, nat_lt, List, ◌++◌, filter, All}
use Rattle.bound_report.specs.declared.counts.NodeCount.{NodeCount}
use Rattle.bound_report.specs.declared.counts.MethodCounts.{MethodCounts}
use Rattle.bound_report.specs.declared.contents.rows.ReportRow.{ReportRow}

-- the numbers of a node's row are within 128 bits
pub record HasSmallRow (k : MethodCounts) (c : NodeCount) : Type 0 where
  pub visits : k.times * c.visits < 2 ^ 128
  pub cycles : k.times * c.visits * c.own < 2 ^ 128

abbrev pub AreSmallRows : MethodCounts → Type 0
AreSmallRows k = All (HasSmallRow k) k.nodes.items

abbrev pub AreSmallParts : List MethodCounts → Type 0
AreSmallParts ks = All AreSmallRows ks

-- those of these rows are added whose nodes are visited
abbrev pub AddsRows : (added old new : List ReportRow) → Type 0
AddsRows added old new = new ≡ old ++ filter (λ r. nat_lt 0 r.visits) added
