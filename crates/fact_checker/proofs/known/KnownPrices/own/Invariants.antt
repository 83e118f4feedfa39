use Rattle.std.proofs.Common.{◌≡◌, take}
use Rattle.std.specs.Prelude.{flat_map}
use Rattle.fact_checker.proofs.Priced.{own_of}
use Rattle.fact_checker.proofs.known.KnownPrices.own.Given as goal

abbrev pub invariant-loop-price : goal.invariant-loop-price
invariant-loop-price l = l.own ≡ flat_map (own_of l.self.facts l.s.plain.method) (take l.price-index l.s.prices)
