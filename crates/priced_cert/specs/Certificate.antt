-- Certificates of version 3: as those of version 2, with prices of facts.
use Rattle.std.specs.Prelude.{◌≡◌, ◌≢◌, List, length, All}
use Rattle.certificates.specs.declared.lines.line.SectionKind.TheVariants.{Alone}
use Rattle.certificates.specs.Certificate.{Certificate, IsInGrammar}
use Rattle.priced_cert.specs.declared.prices.Price.{Price}
use Rattle.priced_cert.specs.declared.prices.RootPrice.{RootPrice}
use Rattle.priced_cert.specs.Prices.{ArePrices, AreRootPrices}

-- the certificate without its prices, the prices of facts in the root, and of each section the prices of its method's facts
pub record PricedCertificate : Type 0 where
  pub plain : Certificate
  pub root_prices : List RootPrice
  pub prices : List (List Price)

-- A certificate that can be written as a text. Without its prices it is one of version 2, with no section of the kind alone.
pub record IsPricedInGrammar (c : PricedCertificate) : Type 0 where
  pub plain : IsInGrammar c.plain
  pub version : c.plain.version ≡ 2
  pub kinds : All (λ s. s.kind ≢ Alone) c.plain.sections
  pub root_prices : AreRootPrices c.root_prices
  pub each : length c.prices ≡ length c.plain.sections
  pub prices : All ArePrices c.prices
