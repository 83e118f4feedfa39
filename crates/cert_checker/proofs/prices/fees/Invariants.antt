use Rattle.std.proofs.Common.{◌≡◌, ℕ, length}
use Rattle.section_check.specs.Section.{CertifiedLoop}
use Rattle.std.specs.Prelude.{None, slice_index_or, ◌<◌}
use Rattle.bytecode_model.specs.Program.{Program}
use Rattle.method_flow.specs.Flow.{IsFlowOf}
use Rattle.section_check.specs.Placing.{IsEntryAt}
use Rattle.bound_rules.specs.Sections.{IsEntryLoad}
use Rattle.cert_checker.proofs.prices.fees.Given as goal

abbrev pub invariant-loop-l : goal.invariant-loop-l
invariant-loop-l l = record {
  long : length l.fees.items ≡ l.l-index;
  each : (P : Program) → IsFlowOf P l.task.flow → (i : ℕ) (k : CertifiedLoop) → i < l.l-index → IsEntryAt l.s.section.loops i k → IsEntryLoad P l.task.timing l.s.method k (slice_index_or l.fees.items i None);
}
