use Rattle.std.proofs.Common.{◌-◌, eqb, length}
use Rattle.std.specs.List.{IsDistinct}
use Rattle.class_hierarchy.proofs.CycleLemmas.{IsSearched}
use Rattle.class_hierarchy.proofs.cycles.is_on_cycle.Given as goal

abbrev pub invariant-loop-next : goal.invariant-loop-next
invariant-loop-next l = IsSearched l.classes l.class l.found l.next × IsDistinct eqb l.found

abbrev pub decreases-loop-next : goal.decreases-loop-next
decreases-loop-next l = length l.classes - l.next
