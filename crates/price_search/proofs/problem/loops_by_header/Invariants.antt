use Rattle.std.proofs.Common.{◌≡◌, length}
use Rattle.price_search.proofs.problem.loops_by_header.Given as goal

abbrev pub invariant-loop-i : goal.invariant-loop-i
invariant-loop-i l = length l.heads.items ≡ l.nodes
