use Rattle.loop_nest.proofs.Nesting.{loops_are_nested_lem}
use Rattle.loop_nest.proofs.laws.loops_are_nested.Goals as goal

pub returns : goal.returns
returns c = loops_are_nested_lem
