use Rattle.method_flow.proofs.Examples.{worked}
use Rattle.method_flow.proofs.laws.worked_examples.Goals as goal

pub returns : goal.returns
returns c = worked
