use Rattle.bound_finder.proofs.Readying.{ready_has_shape}
use Rattle.bound_finder.proofs.laws.ready_has_shape.Goals as goal

pub returns : goal.returns
returns c = ready_has_shape c.graphs_are_moved.ensures.graphs c.parts_are_sound.ensures c.ends_are_one.ensures c.moved_is_nest.ensures.nest c.headers_are_instructions.ensures
