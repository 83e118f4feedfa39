use Rattle.answer_lines.proofs.RowLaws.{plan_rows}
use Rattle.answer_lines.proofs.laws.rows_of_plans.Goals as goal

pub returns : goal.returns
returns c = plan_rows
