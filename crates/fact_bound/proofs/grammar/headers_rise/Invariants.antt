use Rattle.std.proofs.Common.{ℕ, ◌+◌, ◌<◌, get_or}
use Rattle.section_check.specs.Section.{CertifiedLoop}
use Rattle.fact_bound.proofs.grammar.headers_rise.Given as goal

abbrev pub invariant-loop-i : goal.invariant-loop-i
invariant-loop-i l = (k : ℕ) (d : CertifiedLoop) → k + 1 < l.i → (get_or l.loops k d).header < (get_or l.loops (k + 1) d).header
