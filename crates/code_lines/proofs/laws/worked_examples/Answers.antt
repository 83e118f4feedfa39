use Rattle.code_lines.proofs.Examples.{worked}
use Rattle.code_lines.proofs.laws.worked_examples.Goals as goal

pub returns : goal.returns
returns c = worked
