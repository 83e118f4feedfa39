use Rattle.loop_nest.proofs.WalkParts.{dominates_both}
use Rattle.loop_nest.proofs.laws.dominance_is_antisymmetric.Goals as goal

pub returns : goal.returns
returns c = dominates_both
