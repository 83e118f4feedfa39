-- The first price of a certificate that is of no fact.
use Rattle.std.specs.Prelude.{ℕ, List, map, flat_map, Option, MatchOption}
use Rattle.flow_facts.specs.Facts.{Facts}
use Rattle.priced_cert.specs.Certificate.{PricedCertificate}
use Rattle.fact_rules.specs.declared.faults.PricedFault.{PricedFault}
use Rattle.fact_rules.specs.declared.faults.PricedFault.TheVariants.{Price, Check}
use Rattle.bound_rules.specs.declared.faults.CheckFault.TheVariants.{NoMemory}
use Rattle.fact_rules.specs.Pricing.{PlacedPrice, PricedSection, placed_in, placed_prices, pricing_of}
use Rattle.fact_rules.specs.Conditions.{AreOfFacts, sections_of}
use Rattle.fact_rules.specs.Refused.{IsFirstWithoutFact}

-- the method and the node of the first of these prices that is of no fact, where there is one
abbrev pub IsMissing : List PlacedPrice → Option (ℕ × ℕ) → Type 0
IsMissing xs found = MatchOption found (AreOfFacts xs) (λ at. IsFirstWithoutFact xs at.0 at.1)

-- the prices of sections, with the facts that they are of
abbrev pub placed_in_sections : Facts → List PricedSection → List PlacedPrice
placed_in_sections facts ss = flat_map (λ s. map (placed_in facts s.plain.method) s.prices) ss

-- the fault is that the first price without a fact is of this node, or want of memory
abbrev pub IsMissingOrMemory : Facts → PricedCertificate → PricedFault → Type 0
IsMissingOrMemory facts c (Price m u) = IsFirstWithoutFact (placed_prices (pricing_of facts c) (sections_of c)) m u
IsMissingOrMemory facts c (Check NoMemory) = Unit {0}
IsMissingOrMemory facts c (Check fault) = ⊥
