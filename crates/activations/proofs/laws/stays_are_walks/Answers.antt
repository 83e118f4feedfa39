use Rattle.activations.proofs.Walking.{walks}
use Rattle.activations.proofs.laws.stays_are_walks.Goals as goal

pub returns : goal.returns
returns c g callers m a b between nodes stay =
    let steps = c.steps_go_along_edges.ensures in
    walks steps.moves steps.returns steps.drops steps.callers_return steps.callers_raise c.ending_is_a_walk.ensures g stay
