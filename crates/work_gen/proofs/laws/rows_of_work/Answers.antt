use Rattle.work_gen.proofs.RowLaws.{rows}
use Rattle.work_gen.proofs.laws.rows_of_work.Goals as goal

pub returns : goal.returns
returns c = rows
