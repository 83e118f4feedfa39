use Rattle.std.proofs.Common.{◌≡◌, true, take}
use Rattle.std.specs.List.{list_all}
use Rattle.class_rules.specs.Tests.{names_class}
use Rattle.class_pool.specs.Grammar.{entry_at}
use Rattle.class_rules.proofs.pool.all_name_classes.Given as goal

abbrev pub invariant-loop-index : goal.invariant-loop-index
invariant-loop-index l = list_all (λ i. names_class l.forms (entry_at l.pool i)) (take l.index-index l.indexes) ≡ true
