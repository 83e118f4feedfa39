use Rattle.std.proofs.Common.{◌≡◌, length}
use Rattle.price_search.proofs.guessing.guess_prices.Given as goal

abbrev pub invariant-loop-u : goal.invariant-loop-u
invariant-loop-u l = length l.guess.prices.items ≡ length l.fn.guess.prices.items
