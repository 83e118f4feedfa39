use Rattle.std.proofs.Common.{ℕ, ◌<◌, get_or}
use Rattle.std.specs.List.Sorted.{IsStrictlyIncreasing}
use Rattle.section_check.specs.Section.{CertifiedLoop}
use Rattle.section_check.proofs.form.members_rise.Given as goal

abbrev pub invariant-loop-i : goal.invariant-loop-i
invariant-loop-i l = (k : ℕ) (d : CertifiedLoop) → k < l.i → IsStrictlyIncreasing (get_or l.loops k d).members
