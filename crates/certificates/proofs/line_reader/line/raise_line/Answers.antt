use Rattle.std.proofs.Common.{rules, true}
use Rattle.certificates.specs.CertLines.{line_text, IsLineInRange}
use Rattle.certificates.proofs.NumberLemmas.{nothing_found}
use Rattle.certificates.proofs.LineLemmas.{absent_node}
use Rattle.certificates.proofs.line_reader.line.raise_line.Goals as goal

pub returns-in_err-place : goal.returns-in_err-place
returns-in_err-place c = nothing_found line_text IsLineInRange _ c.from_residual.result (search rules) (absent_node true c.args.rest.now c.in_err-place.ensures)
