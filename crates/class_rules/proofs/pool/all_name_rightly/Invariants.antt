use Rattle.std.proofs.Common.{◌≡◌, true, take}
use Rattle.std.specs.List.{list_all}
use Rattle.class_rules.specs.Tests.{names_rightly}
use Rattle.class_rules.proofs.pool.all_name_rightly.Given as goal

abbrev pub invariant-loop-entry : goal.invariant-loop-entry
invariant-loop-entry l = list_all (names_rightly l.pool l.forms) (take l.entry-index l.pool) ≡ true
