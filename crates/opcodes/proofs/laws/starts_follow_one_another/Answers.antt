use Rattle.opcodes.proofs.StartLemmas.{AreStarts-starts_of}
use Rattle.opcodes.proofs.laws.starts_follow_one_another.Goals as goal

pub returns : goal.returns
returns c = AreStarts-starts_of
