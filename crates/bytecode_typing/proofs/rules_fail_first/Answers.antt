use Rattle.bytecode_typing.proofs.WorkedOut.{worked_out}
use Rattle.bytecode_typing.proofs.rules_fail_first.Goals as goal

pub returns : goal.returns
returns c = worked_out
