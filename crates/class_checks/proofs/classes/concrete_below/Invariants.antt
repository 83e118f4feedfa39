use Rattle.std.proofs.Common.{◌&&◌}
use Rattle.class_lookup.specs.Hierarchy.{extends, is_concrete}
use Rattle.class_checks.proofs.MarkLemmas.{AreFound}
use Rattle.class_checks.proofs.classes.concrete_below.Given as goal

abbrev pub invariant-loop-class : goal.invariant-loop-class
invariant-loop-class l = AreFound (λ c. is_concrete l.classes c && extends l.classes c l.upper) l.class l.found.items
