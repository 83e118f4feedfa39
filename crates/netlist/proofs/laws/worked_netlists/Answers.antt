use Rattle.netlist.proofs.Worked.{expression_rows, counter_rows, ram_rows}
use Rattle.netlist.proofs.laws.worked_netlists.Goals as goal

pub returns : goal.returns
returns c = (expression_rows, counter_rows, ram_rows)
