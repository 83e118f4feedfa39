use Rattle.std.proofs.Common.{◌≡◌, length}
use Rattle.price_search.proofs.guessing.priced_iteration.Given as goal

abbrev pub invariant-loop : goal.invariant-loop
invariant-loop l = length l.guess.prices.items ≡ length l.fn.guess.prices.items
