use Rattle.std.proofs.Common.{◌≢◌, ℕ, ◌<◌, get_or, Contains}
use Rattle.section_check.specs.Section.{CertifiedLoop}
use Rattle.section_check.specs.Placing.{IsEntryAt}
use Rattle.section_index.proofs.aside.enters_aside.Given as goal

abbrev pub invariant-loop-k : goal.invariant-loop-k
invariant-loop-k l =
    (j : ℕ) (m : CertifiedLoop) → j < l.k-index → IsEntryAt l.loops (get_or l.around j 0) m → (¬ Contains m.members l.u) → ¬ (l.v ≢ m.header)
