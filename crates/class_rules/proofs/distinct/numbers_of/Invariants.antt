use Rattle.std.proofs.Common.{◌≡◌, ◌+◌, length}
use Rattle.class_rules.proofs.DistinctLemmas.{AreFirst}
use Rattle.class_rules.proofs.distinct.numbers_of.Given as goal

abbrev pub invariant-loop-entry : goal.invariant-loop-entry
invariant-loop-entry l = AreFirst l.pool l.known l.numbers.items × (length l.numbers.items ≡ l.entry-index + 1)
