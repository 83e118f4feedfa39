use Rattle.netlist_text.proofs.Worked.{counter_text}
use Rattle.netlist_text.proofs.laws.worked_text.Goals as goal

pub returns : goal.returns
returns c = counter_text
