use Rattle.answer_lines.proofs.RowLaws.{rows}
use Rattle.answer_lines.proofs.laws.rows_of_lines.Goals as goal

pub returns : goal.returns
returns c = rows
