use Rattle.method_flow.proofs.Walking.{moves_are_live, returns_are_exits, drops_are_exits, callers_return, callers_raise}
use Rattle.method_flow.proofs.laws.steps_go_along_edges.Goals as goal

pub returns-clause-moves : goal.returns-clause-moves
returns-clause-moves c = moves_are_live

pub returns-clause-returns : goal.returns-clause-returns
returns-clause-returns c = returns_are_exits

pub returns-clause-drops : goal.returns-clause-drops
returns-clause-drops c = drops_are_exits

pub returns-clause-callers_return : goal.returns-clause-callers_return
returns-clause-callers_return c = callers_return

pub returns-clause-callers_raise : goal.returns-clause-callers_raise
returns-clause-callers_raise c = callers_raise
