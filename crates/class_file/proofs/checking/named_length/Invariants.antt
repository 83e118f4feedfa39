use Rattle.class_file.proofs.CheckLemmas.{IsCounted}
use Rattle.class_file.proofs.checking.named_length.Given as goal

abbrev pub invariant-loop-bytes : goal.invariant-loop-bytes
invariant-loop-bytes l = IsCounted l.attributes l.bytes-index l.total
