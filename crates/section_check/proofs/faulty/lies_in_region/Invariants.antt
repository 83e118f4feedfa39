use Rattle.std.proofs.Common.{◌≡◌, ◌≢◌, ℕ, ◌<◌, true}
use Rattle.section_check.specs.Section.{CertifiedLoop}
use Rattle.section_check.specs.Placing.{IsEntryAt, LiesIn}
use Rattle.section_check.proofs.faulty.lies_in_region.Given as goal

abbrev pub invariant-loop-k : goal.invariant-loop-k
invariant-loop-k l =
    (j : ℕ) (m x : CertifiedLoop) → j < l.k → IsEntryAt l.loops j m → IsEntryAt l.loops l.i x → ¬ ((j ≢ l.i) × (m.region ≡ true) × LiesIn x m)
