use Rattle.bound_laws.proofs.Cycles.{lies_in_loop}
use Rattle.bound_laws.proofs.laws.cycles_lie_in_loops.Goals as goal

pub returns : goal.returns
returns c = λ g reached takes u v ns e w. lies_in_loop c.loops_are_nested.ensures g reached takes u v ns e w
