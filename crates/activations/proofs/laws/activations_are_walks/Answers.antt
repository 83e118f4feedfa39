use Rattle.activations.proofs.Trees.{activations_are_walks}
use Rattle.activations.proofs.laws.activations_are_walks.Goals as goal

pub returns : goal.returns
returns c = activations_are_walks c.activations_are_trees.ensures c.stays_are_walks.ensures c.ending_is_a_walk.ensures
