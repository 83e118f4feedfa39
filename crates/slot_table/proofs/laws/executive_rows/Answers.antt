use Rattle.slot_table.proofs.Rows.{rows}
use Rattle.slot_table.proofs.laws.executive_rows.Goals as goal

pub returns : goal.returns
returns c = rows
