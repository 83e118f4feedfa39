use Rattle.std.proofs.Common.{◌≢◌, ℕ, ◌<◌, Contains}
use Rattle.section_check.specs.Section.{CertifiedLoop}
use Rattle.section_check.specs.Placing.{IsEntryAt}
use Rattle.section_check.proofs.placing.holds_entry.Given as goal

abbrev pub invariant-loop-i : goal.invariant-loop-i
invariant-loop-i l =
    (j : ℕ) (m : CertifiedLoop) → j < l.i → IsEntryAt l.loops j m → m.header ≢ 0 → ¬ Contains m.members 0
