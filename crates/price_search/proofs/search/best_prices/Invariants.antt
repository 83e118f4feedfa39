use Rattle.std.proofs.Common.{◌≡◌, length}
use Rattle.price_search.proofs.search.best_prices.Given as goal

abbrev pub invariant-loop-f : goal.invariant-loop-f
invariant-loop-f l = length l.prices.items ≡ l.f
