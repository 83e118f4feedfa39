use Rattle.std.proofs.Common.{ℕ, ◌<◌, get_or}
use Rattle.priced_cert.specs.declared.prices.Price.{Price}
use Rattle.priced_cert.specs.Prices.{StandsBefore}
use Rattle.fact_bound.proofs.grammar.is_behind.Given as goal

abbrev pub invariant-loop-k : goal.invariant-loop-k
invariant-loop-k l = (j : ℕ) (d : Price) → j < l.k
    → StandsBefore (get_or l.prices j d).node (get_or l.prices j d).header (get_or l.prices l.i d).node (get_or l.prices l.i d).header
