use Rattle.netlist.proofs.Operators.{all_moved_up}
use Rattle.netlist.proofs.arithmetic.shifted_up.Goals as goal

pub returns-then-by-ge64 : goal.returns-then-by-ge64
returns-then-by-ge64 c = all_moved_up c.args.x c.args.by c.args.width c.requires c.if-by-ge64.true
