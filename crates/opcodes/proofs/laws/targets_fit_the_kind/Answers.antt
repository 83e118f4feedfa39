use Rattle.opcodes.proofs.TargetLemmas.{TargetsFitKind-targets_of}
use Rattle.opcodes.proofs.laws.targets_fit_the_kind.Goals as goal

pub returns : goal.returns
returns c = TargetsFitKind-targets_of
