use Rattle.std.proofs.Common.{ℕ, List, ◌<◌, get_or}
use Rattle.priced_cert.specs.declared.prices.Price.{Price}
use Rattle.priced_cert.specs.Prices.{ArePrices}
use Rattle.fact_bound.proofs.grammar.are_all_prices.Given as goal

abbrev pub invariant-loop-i : goal.invariant-loop-i
invariant-loop-i l = (k : ℕ) (d : List Price) → k < l.i → ArePrices (get_or l.prices k d)
