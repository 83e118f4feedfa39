-- What follows of texts of certificates of version 3.
use Rattle.std.specs.Prelude.{◌≡◌, ℕ, List}
use Rattle.ascii_text.specs.Line.{lines_of as text_lines}
use Rattle.certificates.specs.Certificate.{Certificate}
use Rattle.certificates.specs.Texts.{AreLinesOf}
use Rattle.priced_cert.specs.Certificate.{PricedCertificate, IsPricedInGrammar}
use Rattle.priced_cert.specs.Texts.{ArePricedLinesOf, priced_text, SaysPriced}

-- A text is of one certificate.
abbrev pub HasOnePricedCertificate : Type 0
HasOnePricedCertificate = (lines : List (List ℕ)) (c d : PricedCertificate) → ArePricedLinesOf lines c → ArePricedLinesOf lines d → c ≡ d

-- What is written of a certificate is its text.
abbrev pub IsPricedReadBack : Type 0
IsPricedReadBack = (c : PricedCertificate) → IsPricedInGrammar c → ArePricedLinesOf (text_lines (priced_text c)) c

-- The first line says of which grammar a text is: each text of version 3 has that line, and none of version 1 or 2 has it.
pub record VersionsAreApart : Type 0 where
  pub priced : (lines : List (List ℕ)) (c : PricedCertificate) → ArePricedLinesOf lines c → SaysPriced lines
  pub plain : (lines : List (List ℕ)) (c : Certificate) → AreLinesOf lines c → ¬ SaysPriced lines
