use Rattle.std.proofs.Common.{◌≡◌, ℕ, ◌<◌, None}
use Rattle.section_check.specs.Section.{CertifiedLoop}
use Rattle.section_check.specs.Placing.{IsEntryAt}
use Rattle.node_costs.specs.Costs.{bounds_of}
use Rattle.bound_rules.specs.Fitting.{header_bound}
use Rattle.cert_checker.proofs.prices.unbounded.Given as goal

abbrev pub invariant-loop-l : goal.invariant-loop-l
invariant-loop-l l = (k : ℕ) (m : CertifiedLoop) → k < l.l-index → IsEntryAt l.s.section.loops k m → ¬ (header_bound (bounds_of l.task.flow l.task.bounds) l.s.method m.header ≡ None)
