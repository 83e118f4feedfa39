use Rattle.std.proofs.Common.{◌≡◌, map, take}
use Rattle.class_lookup.specs.Parts.{superclass_name}
use Rattle.class_lookup.specs.Hierarchy.{find_class}
use Rattle.class_lookup.proofs.names.superclasses_of.Given as goal

abbrev pub invariant-loop-i : goal.invariant-loop-i
invariant-loop-i l = l.supers.items ≡ map (λ k. find_class l.classes (superclass_name k)) (take l.i l.classes)
