use Rattle.slot_table.proofs.Cuts.{cut_some, cut_none}
use Rattle.slot_table.proofs.line.cut.Goals as goal

pub returns-in-Some : goal.returns-in-Some
returns-in-Some c = cut_some c.args.byte c.args.text.now c.in-Some.end c.in-Some.ensures

pub returns-in-None : goal.returns-in-None
returns-in-None c = cut_none c.args.byte c.args.text.now c.in-None.ensures
