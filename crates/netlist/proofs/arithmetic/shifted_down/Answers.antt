use Rattle.netlist.proofs.Operators.{all_moved_down}
use Rattle.netlist.proofs.arithmetic.shifted_down.Goals as goal

pub returns-then-by-ge64 : goal.returns-then-by-ge64
returns-then-by-ge64 c = all_moved_down c.args.x c.args.by c.ranges.x.fits c.if-by-ge64.true
