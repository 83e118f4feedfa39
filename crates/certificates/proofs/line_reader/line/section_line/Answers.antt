use Rattle.std.proofs.Common.{rules}
use Rattle.certificates.specs.CertLines.{line_text, IsLineInRange}
use Rattle.certificates.proofs.NumberLemmas.{nothing_found}
use Rattle.certificates.proofs.LineLemmas.{no_kind}
use Rattle.certificates.proofs.line_reader.line.section_line.Goals as goal

pub returns-in_err-kind : goal.returns-in_err-kind
returns-in_err-kind c =
    nothing_found line_text IsLineInRange _ c.from_residual-in_err-kind.result (search rules)
    (no_kind c.args.rest.now c.in_ok-word.word.now c.in_ok-word.number.now c.in_ok-word.ensures.0 c.in_ok-word.ensures.1 c.in_err-kind.ensures)
