use Rattle.opcodes.proofs.SwitchLemmas.{IsLocal-decoded}
use Rattle.opcodes.proofs.laws.instructions_are_local.Goals as goal

pub returns : goal.returns
returns c = IsLocal-decoded
