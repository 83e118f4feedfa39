use Rattle.bytecode_model.proofs.Examples.{worked}
use Rattle.bytecode_model.proofs.laws.worked_examples.Goals as goal

pub returns : goal.returns
returns c = worked
