-- What follows of texts of certificates.
use Rattle.std.specs.Prelude.{◌≡◌, ℕ, List}
use Rattle.ascii_text.specs.Line.{lines_of as text_lines}
use Rattle.certificates.specs.Certificate.{Certificate, IsInGrammar}
use Rattle.certificates.specs.Texts.{AreLinesOf, text_of}

-- A text is of one certificate.
abbrev pub HasOneCertificate : Type 0
HasOneCertificate = (lines : List (List ℕ)) (c d : Certificate) → AreLinesOf lines c → AreLinesOf lines d → c ≡ d

-- What is written of a certificate is its text.
abbrev pub IsReadBack : Type 0
IsReadBack = (c : Certificate) → IsInGrammar c → AreLinesOf (text_lines (text_of c)) c
