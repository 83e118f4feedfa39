use Rattle.class_pool.proofs.CheckLemmas.{IsDue}
use Rattle.class_pool.proofs.checking.have_seconds.Given as goal

abbrev pub invariant-loop-entry : goal.invariant-loop-entry
invariant-loop-entry l = IsDue l.entries l.entry-index l.due
