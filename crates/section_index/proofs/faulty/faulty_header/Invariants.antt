use Rattle.std.proofs.Common.{ℕ, ◌<◌}
use Rattle.section_check.specs.Section.{CertifiedLoop}
use Rattle.section_check.specs.Placing.{IsEntryAt, IsFaulty}
use Rattle.section_index.proofs.faulty.faulty_header.Given as goal

abbrev pub invariant-loop-i : goal.invariant-loop-i
invariant-loop-i l =
    (j : ℕ) (m : CertifiedLoop) → j < l.i → IsEntryAt l.loops j m → ¬ IsFaulty l.loops l.loads j m
