use Rattle.std.proofs.Common.{◌≡◌, ◌≤◌, ◌*◌, ◌^◌, take}
use Rattle.std.specs.Prelude.{sum_by}
use Rattle.fact_checker.specs.Known.{pricing}
use Rattle.fact_checker.proofs.Priced.{due_of}
use Rattle.fact_checker.proofs.known.KnownPrices.root_due.Given as goal

abbrev pub invariant-loop-price : goal.invariant-loop-price
invariant-loop-price l = record {
  is : l.sum ≡ sum_by (due_of (pricing l.self)) (take l.price-index l.self.certificate.root_prices);
  small : l.sum ≤ l.price-index * 2 ^ 96;
}
