use Rattle.std.proofs.Common.{ℕ, ◌+◌, ◌<◌, get_or}
use Rattle.section_check.specs.Section.{listed}
use Rattle.fact_bound.proofs.grammar.nodes_rise.Given as goal

abbrev pub invariant-loop-i : goal.invariant-loop-i
invariant-loop-i l = (k : ℕ) → k + 1 < l.i → get_or (listed l.nodes) k 0 < get_or (listed l.nodes) (k + 1) 0
