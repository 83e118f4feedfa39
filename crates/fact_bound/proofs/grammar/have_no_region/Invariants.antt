use Rattle.std.proofs.Common.{◌≡◌, ℕ, ◌<◌, true, get_or}
use Rattle.section_check.specs.Section.{CertifiedLoop}
use Rattle.fact_bound.proofs.grammar.have_no_region.Given as goal

abbrev pub invariant-loop-i : goal.invariant-loop-i
invariant-loop-i l = (k : ℕ) (d : CertifiedLoop) → k < l.i → ¬ ((get_or l.loops k d).region ≡ true)
