use Rattle.method_flow.proofs.Shaping.{steps_have_shapes}
use Rattle.method_flow.proofs.laws.steps_have_shapes.Goals as goal

pub returns : goal.returns
returns c = steps_have_shapes c.only_marked_ones_raise.ensures
