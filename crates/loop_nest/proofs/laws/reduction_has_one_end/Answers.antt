use Rattle.loop_nest.proofs.Ends.{reduction_has_one_end}
use Rattle.loop_nest.proofs.laws.reduction_has_one_end.Goals as goal

pub returns : goal.returns
returns c = reduction_has_one_end
