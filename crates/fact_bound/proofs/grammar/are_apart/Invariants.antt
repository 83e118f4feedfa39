use Rattle.std.proofs.Common.{ℕ, ◌<◌}
use Rattle.fact_bound.specs.Grammar.{IsNewMethod}
use Rattle.fact_bound.proofs.grammar.are_apart.Given as goal

abbrev pub invariant-loop-i : goal.invariant-loop-i
invariant-loop-i l = (j : ℕ) → j < l.i → IsNewMethod l.sections j
