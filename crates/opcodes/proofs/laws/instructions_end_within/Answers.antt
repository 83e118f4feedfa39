use Rattle.opcodes.proofs.WithinLemmas.{IsWithin-decoded}
use Rattle.opcodes.proofs.laws.instructions_end_within.Goals as goal

pub returns : goal.returns
returns c = IsWithin-decoded
