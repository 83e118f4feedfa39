use Rattle.std.proofs.Common.{◌≡◌, map, take}
use Rattle.fact_rules.specs.Pricing.{Pricing, placed_in_root}
use Rattle.fact_rules.specs.Conditions.{AreOfFacts}
use Rattle.fact_checker.proofs.missing.missing_in_root.Given as goal

abbrev pub invariant-loop-price : goal.invariant-loop-price
invariant-loop-price l = (q : Pricing) → q.facts ≡ l.index → q.root ≡ l.root → AreOfFacts (map (placed_in_root q) (take l.price-index l.prices))
