use Rattle.std.proofs.Common.{◌≡◌, ◌++◌, take}
use Rattle.std.specs.Prelude.{flat_map}
use Rattle.priced_cert.specs.Weaving.{price_fed}
use Rattle.priced_cert.proofs.writer.put_prices.Given as goal

abbrev pub invariant-loop-price : goal.invariant-loop-price
invariant-loop-price l = l.out.items ≡ l.initial.out.items ++ flat_map price_fed (take l.price-index l.prices)
