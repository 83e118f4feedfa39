use Rattle.opcodes.proofs.StartLemmas.{IsPartition-starts_of}
use Rattle.opcodes.proofs.laws.instructions_partition_the_code.Goals as goal

pub returns : goal.returns
returns c = IsPartition-starts_of
