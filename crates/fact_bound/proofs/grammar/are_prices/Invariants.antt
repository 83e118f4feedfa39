use Rattle.std.proofs.Common.{ℕ, ◌<◌, get_or}
use Rattle.priced_cert.specs.declared.prices.Price.{Price}
use Rattle.priced_cert.specs.Prices.{IsPriceInRange}
use Rattle.fact_bound.specs.Grammar.{IsBehindAll}
use Rattle.fact_bound.proofs.grammar.are_prices.Given as goal

abbrev pub invariant-loop-i : goal.invariant-loop-i
invariant-loop-i l = record {
  range : (k : ℕ) (d : Price) → k < l.i → IsPriceInRange (get_or l.prices k d);
  rising : (k : ℕ) → k < l.i → IsBehindAll l.prices k;
}
