use Rattle.std.proofs.Common.{◌≡◌, length}
use Rattle.price_search.proofs.lines.least_from.Given as goal

abbrev pub invariant-loop : goal.invariant-loop
invariant-loop l = length l.descent.prices.items ≡ length l.from
