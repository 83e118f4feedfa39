-- Why a text gives no certificate.
use Rattle.std.specs.Prelude.{ℕ, List}
use Rattle.ascii_text.specs.Line.{lines_of as text_lines}
use Rattle.certificates.specs.declared.reader.CertFault.{CertFault}
use Rattle.certificates.specs.declared.reader.CertFault.TheVariants.{Line, NoMemory}
use Rattle.certificates.specs.Texts.{IsFirstRefusedLine}

-- the cause of a fault: it is that of the first line that is refused
abbrev pub IsRefused : (text : List ℕ) → CertFault → Type 0
IsRefused text (Line n) = IsFirstRefusedLine (text_lines text) n
IsRefused text NoMemory = Unit {0}
