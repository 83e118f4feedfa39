use Rattle.std.proofs.Common.{◌≡◌, length}
use Rattle.price_search.proofs.lines.descend_all.Given as goal

abbrev pub invariant-loop-k : goal.invariant-loop-k
invariant-loop-k l = length l.descent.prices.items ≡ length l.initial.descent.prices.items
