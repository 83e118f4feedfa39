use Rattle.std.proofs.Common.{map, take}
use Rattle.fact_rules.specs.Pricing.{placed_in}
use Rattle.fact_rules.specs.Conditions.{AreOfFacts}
use Rattle.fact_checker.proofs.missing.missing_in_section.Given as goal

abbrev pub invariant-loop-price : goal.invariant-loop-price
invariant-loop-price l = AreOfFacts (map (placed_in l.index l.method) (take l.price-index l.prices))
