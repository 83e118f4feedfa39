use Rattle.std.proofs.Common.{ℕ, ◌<◌, get_or}
use Rattle.section_check.specs.Section.{CertifiedLoop}
use Rattle.certificates.specs.Certificate.{IsLoopInText}
use Rattle.fact_bound.proofs.grammar.are_loops_in_text.Given as goal

abbrev pub invariant-loop-i : goal.invariant-loop-i
invariant-loop-i l = (k : ℕ) (d : CertifiedLoop) → k < l.i → IsLoopInText (get_or l.loops k d)
