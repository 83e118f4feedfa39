-- The text of a certificate of version 3, line by line.
use Rattle.std.specs.Prelude.{◌≡◌, ℕ, ◌+◌, ◌≤◌, ◌<◌, List, [], ◌∷◌, ◌++◌, length, map, take, flat_map, codes}
use Rattle.ascii_text.specs.Line.{lines_of as text_lines}
use Rattle.certificates.specs.declared.lines.line.CertLine.TheVariants.{Root, Bound}
use Rattle.certificates.specs.declared.cert.CertSection.{CertSection}
use Rattle.certificates.specs.declared.reader.CertFault.{CertFault}
use Rattle.certificates.specs.declared.reader.CertFault.TheVariants.{Line, NoMemory}
use Rattle.certificates.specs.CertLines.{line_text}
use Rattle.certificates.specs.Texts.{section_said}
use Rattle.priced_cert.specs.declared.prices.Price.{Price}
use Rattle.priced_cert.specs.Prices.{price_line, root_price_line}
use Rattle.priced_cert.specs.Certificate.{PricedCertificate, IsPricedInGrammar}

-- ---- its lines

abbrev pub version_line : List ℕ
version_line = codes "JOPC 3"

-- the lines of each section, and behind them those of its prices
abbrev pub section_lines : List CertSection → List (List Price) → List (List ℕ)
section_lines [] prices = []
section_lines (s ∷ ss) [] = []
section_lines (s ∷ ss) (xs ∷ prices) = map line_text (section_said s) ++ (map price_line xs ++ section_lines ss prices)

abbrev pub priced_lines : PricedCertificate → List (List ℕ)
priced_lines c =
    version_line ∷ line_text (Root c.plain.root)
    ∷ (map root_price_line c.root_prices ++ (section_lines c.plain.sections c.prices ++ line_text (Bound c.plain.bound) ∷ []))

-- a line and its LF
abbrev pub fed_line : List ℕ → List ℕ
fed_line line = line ++ 10 ∷ []

-- as it is written
abbrev pub priced_text : PricedCertificate → List ℕ
priced_text c = flat_map fed_line (priced_lines c)

-- ---- reading

-- the lines are those of the certificate
pub record ArePricedLinesOf (lines : List (List ℕ)) (c : PricedCertificate) : Type 0 where
  pub grammar : IsPricedInGrammar c
  pub text : lines ≡ priced_lines c

-- they are the first lines of a certificate, or all of them
pub record BeginPriced (lines : List (List ℕ)) : Type 0 where
  pub further : List (List ℕ)
  pub certificate : PricedCertificate
  pub whole : ArePricedLinesOf (lines ++ further) certificate

-- Line n, counted from 1, is the first with which no certificate begins. Where the lines begin one and end too early, it is the one behind the last.
pub record IsFirstUnpricedLine (lines : List (List ℕ)) (n : ℕ) : Type 0 where
  pub none : (c : PricedCertificate) → ¬ ArePricedLinesOf lines c
  pub counted : (1 ≤ n) × (n ≤ length lines + 1)
  pub before : (k : ℕ) → k < n → BeginPriced (take k lines)
  pub at : n ≤ length lines → ¬ BeginPriced (take n lines)

-- the cause of a fault: it is that of the first line that is refused
abbrev pub IsPricedRefused : (text : List ℕ) → CertFault → Type 0
IsPricedRefused text (Line n) = IsFirstUnpricedLine (text_lines text) n
IsPricedRefused text NoMemory = Unit {0}

-- its first line says version 3
abbrev pub SaysPriced : (lines : List (List ℕ)) → Type 0
SaysPriced lines = (rest : List (List ℕ)) × (lines ≡ version_line ∷ rest)
