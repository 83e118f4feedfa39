use Rattle.std.proofs.Common.{◌≡◌, Some, drop, map}
use Rattle.class_lookup.specs.Lists.{first_some}
use Rattle.class_lookup.specs.Lookup.{declared_method}
use Rattle.class_lookup.specs.Parts.{Signature}
use Rattle.class_lookup.specs.Symbols.{symbol}
use Rattle.class_hierarchy.proofs.members.first_method.Given as goal

abbrev pub invariant-loop-class : goal.invariant-loop-class
invariant-loop-class l =
    (s : Signature) → symbol l.classes s.name ≡ Some l.name → symbol l.classes s.descriptor ≡ Some l.descriptor
    → first_some (map (declared_method l.classes s) (drop l.class-index l.list)) ≡ first_some (map (declared_method l.classes s) l.list)
