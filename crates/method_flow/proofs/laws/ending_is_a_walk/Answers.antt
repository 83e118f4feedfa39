use Rattle.method_flow.proofs.Walking.{ending_is_a_walk}
use Rattle.method_flow.proofs.laws.ending_is_a_walk.Goals as goal

pub returns : goal.returns
returns c = ending_is_a_walk
