-- What is tested of a certificate's sections and prices.
use Rattle.std.specs.Prelude.{◌≡◌, ◌≢◌, ℕ, ◌<◌, List, length, map, slice_index_or, All}
use Rattle.std.specs.List.{AllPairs}
use Rattle.certificates.specs.declared.lines.line.SectionKind.TheVariants.{Alone}
use Rattle.certificates.specs.declared.cert.CertSection.{CertSection}
use Rattle.certificates.specs.Certificate.{IsSectionInText, sort_of}
use Rattle.priced_cert.specs.declared.prices.Price.{Price}
use Rattle.priced_cert.specs.Prices.{ArePrices, StandsBefore}

-- no section before this place is of the method of the one there
abbrev pub IsNewMethod : List CertSection → (place : ℕ) → Type 0
IsNewMethod ss i = (k : ℕ) (d : CertSection) → k < i → (slice_index_or ss k d).method ≢ (slice_index_or ss i d).method

-- each price before this place stands before the one there
abbrev pub IsBehindAll : List Price → (place : ℕ) → Type 0
IsBehindAll xs i = (k : ℕ) (d : Price) → k < i
    → StandsBefore (slice_index_or xs k d).node (slice_index_or xs k d).header (slice_index_or xs i d).node (slice_index_or xs i d).header

-- sections and prices of a certificate of version 3
pub record AreInGrammar (ss : List CertSection) (xss : List (List Price)) : Type 0 where
  pub text : All (IsSectionInText 2) ss
  pub kinds : All (λ s. s.kind ≢ Alone) ss
  pub apart : AllPairs (λ a b. a ≢ b) (map sort_of ss)
  pub each : length xss ≡ length ss
  pub prices : All ArePrices xss
