use Rattle.std.proofs.Common.{◌≡◌, ◌≢◌, ℕ, ◌<◌, true, get_or}
use Rattle.section_check.specs.Section.{CertifiedLoop}
use Rattle.section_check.specs.Placing.{IsEntryAt, LiesIn}
use Rattle.section_index.proofs.faulty.lies_in_region.Given as goal

abbrev pub invariant-loop-k : goal.invariant-loop-k
invariant-loop-k l =
    (j : ℕ) (m x : CertifiedLoop) → j < l.k-index → IsEntryAt l.loops (get_or l.around j 0) m → IsEntryAt l.loops l.i x → ¬ ((get_or l.around j 0 ≢ l.i) × (m.region ≡ true) × LiesIn x m)
