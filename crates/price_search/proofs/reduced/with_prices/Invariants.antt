use Rattle.std.proofs.Common.{◌≡◌, length}
use Rattle.price_search.proofs.reduced.with_prices.Given as goal

abbrev pub invariant-loop-f : goal.invariant-loop-f
invariant-loop-f l = (length l.reduced.costs.items ≡ length l.initial.reduced.costs.items) × (length l.reduced.dues.items ≡ length l.initial.reduced.dues.items)
