use Rattle.std.proofs.Common.{◌≢◌, ℕ, ◌<◌, Contains}
use Rattle.section_check.specs.Section.{CertifiedLoop}
use Rattle.section_check.specs.Placing.{IsEntryAt}
use Rattle.section_check.proofs.placing.enters_aside.Given as goal

abbrev pub invariant-loop-i : goal.invariant-loop-i
invariant-loop-i l =
    (j : ℕ) (m : CertifiedLoop) → j < l.i → IsEntryAt l.loops j m → Contains m.members l.v → (¬ Contains m.members l.u) → ¬ (l.v ≢ m.header)
