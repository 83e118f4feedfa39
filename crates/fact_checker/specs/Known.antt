-- What is known of the prices of a certificate before its sections are checked.
use Rattle.std.specs.Prelude.{◌≡◌, ℕ, ◌<◌, ◌^◌, List, length}
use Rattle.flow_facts.specs.Facts.{Facts}
use Rattle.priced_cert.specs.Certificate.{PricedCertificate}
use Rattle.priced_sections.specs.Prices.{PricedFact}
use Rattle.fact_rules.specs.Pricing.{Pricing, pricing_of, placed_prices}
use Rattle.fact_rules.specs.Conditions.{AreOfFacts, sections_of}
use Rattle.fact_checker.specs.RootTable.{AreRootFacts}

-- the facts, a certificate with prices of them, and the number of methods of the program
pub record GivenPrices : Type 0 where
  pub facts : Facts
  pub certificate : PricedCertificate
  pub methods : ℕ

abbrev pub pricing : GivenPrices → Pricing
pricing g = pricing_of g.facts g.certificate

-- each section has its prices, each price is of a fact, few are in the root, and by method these are the facts that they are of
pub record IsKnown (g : GivenPrices) (in_root : List (List PricedFact)) : Type 0 where
  pub same : length g.certificate.prices ≡ length g.certificate.plain.sections
  pub facts_are : AreOfFacts (placed_prices (pricing g) (sections_of g.certificate))
  pub few : length g.certificate.root_prices < 2 ^ 24
  pub root_facts_are : AreRootFacts (pricing g) g.methods in_root
