-- What follows of lines.
use Rattle.std.specs.Prelude.{◌≡◌}
use Rattle.certificates.specs.declared.lines.line.CertLine.{CertLine}
use Rattle.certificates.specs.CertLines.{line_text, IsLineInRange}

-- A line says one thing.
abbrev pub SaysOne : Type 0
SaysOne = (a b : CertLine) → IsLineInRange a → IsLineInRange b → line_text a ≡ line_text b → a ≡ b
