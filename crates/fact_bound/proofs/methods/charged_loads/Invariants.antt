use Rattle.std.proofs.Common.{◌≡◌, length}
use Rattle.fact_bound.proofs.methods.charged_loads.Given as goal

abbrev pub invariant-loop-i : goal.invariant-loop-i
invariant-loop-i l = length l.charged.items ≡ l.i
