use Rattle.std.proofs.Common.{◌≡◌, ◌-◌, ◌++◌}
use Rattle.class_lookup.specs.Hierarchy.{superclasses}
use Rattle.class_checks.proofs.PlacedLemmas.{still}
use Rattle.class_checks.proofs.placed.superclasses.Given as goal

abbrev pub invariant-loop : goal.invariant-loop
invariant-loop l = l.found.items ++ still l.classes (l.count - l.counter) l.next ≡ superclasses l.classes l.class
