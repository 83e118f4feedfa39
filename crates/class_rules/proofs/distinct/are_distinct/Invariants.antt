use Rattle.std.proofs.Common.{◌≡◌, ◌&&◌, length}
use Rattle.std.specs.List.{list_all}
use Rattle.class_rules.specs.Tests.{are_distinct}
use Rattle.class_rules.proofs.DistinctLemmas.{is_fresh}
use Rattle.class_rules.proofs.distinct.are_distinct.Given as goal

abbrev pub invariant-loop-rest : goal.invariant-loop-rest
invariant-loop-rest l = are_distinct l.pool l.members ≡ (list_all (is_fresh l.seen l.numbers) l.rest && are_distinct l.pool l.rest)

abbrev pub decreases-loop-rest : goal.decreases-loop-rest
decreases-loop-rest l = length l.rest
