use Rattle.loop_nest.proofs.Ends.{reducible_is_reached}
use Rattle.loop_nest.proofs.laws.reducible_is_reached.Goals as goal

pub returns : goal.returns
returns c = reducible_is_reached
