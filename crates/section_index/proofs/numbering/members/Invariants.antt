use Rattle.std.proofs.Common.{ℕ, ◌<◌, Contains}
use Rattle.section_check.specs.Section.{CertifiedLoop}
use Rattle.section_check.specs.Placing.{IsEntryAt}
use Rattle.section_index.proofs.numbering.members.Given as goal

abbrev pub invariant-loop-i : goal.invariant-loop-i
invariant-loop-i l =
    (j : ℕ) (m : CertifiedLoop) (x : ℕ) → j < l.i → IsEntryAt l.loops j m → Contains m.members x → Contains l.members.items x
