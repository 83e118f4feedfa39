use Rattle.std.proofs.Common.{◌≡◌, length}
use Rattle.price_search.proofs.reduced.widened.Given as goal

abbrev pub invariant-loop-number : goal.invariant-loop-number
invariant-loop-number l = length l.wide.items ≡ l.number-index
