use Rattle.std.proofs.Common.{◌≡◌, replicate, []}
use Rattle.fact_bound.proofs.plain.no_prices.Given as goal

abbrev pub invariant-loop : goal.invariant-loop
invariant-loop l = l.prices.items ≡ replicate l.counter []
