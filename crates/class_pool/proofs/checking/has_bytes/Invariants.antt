use Rattle.class_pool.proofs.CheckLemmas.{IsCounted}
use Rattle.class_pool.proofs.checking.has_bytes.Given as goal

abbrev pub invariant-loop-unit : goal.invariant-loop-unit
invariant-loop-unit l = IsCounted l.units l.unit-index l.total
