use Rattle.std.proofs.Common.{take}
use Rattle.fact_rules.specs.Pricing.{with_prices}
use Rattle.fact_rules.specs.Conditions.{AreOfFacts}
use Rattle.fact_checker.specs.Missing.{placed_in_sections}
use Rattle.fact_checker.proofs.missing.missing_in_sections.Given as goal

abbrev pub invariant-loop-i : goal.invariant-loop-i
invariant-loop-i l = AreOfFacts (placed_in_sections l.index (take l.i (with_prices l.sections l.prices)))
