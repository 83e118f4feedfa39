use Rattle.bound_report.proofs.OfCode.{rows_are_of_code}
use Rattle.bound_report.proofs.laws.rows_are_of_code.Goals as goal

pub returns : goal.returns
returns c = rows_are_of_code
