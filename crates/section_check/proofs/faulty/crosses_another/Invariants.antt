use Rattle.std.proofs.Common.{ℕ, ◌<◌}
use Rattle.section_check.specs.Section.{CertifiedLoop}
use Rattle.section_check.specs.Placing.{IsEntryAt, AreCrossed}
use Rattle.section_check.proofs.faulty.crosses_another.Given as goal

abbrev pub invariant-loop-k : goal.invariant-loop-k
invariant-loop-k l =
    (j : ℕ) (m x : CertifiedLoop) → j < l.k → IsEntryAt l.loops j m → IsEntryAt l.loops l.i x → ¬ AreCrossed x m
