use Rattle.std.proofs.Common.{◌≡◌, Some, drop, map}
use Rattle.class_lookup.specs.Lists.{first_some}
use Rattle.class_lookup.specs.Lookup.{declared_field}
use Rattle.class_lookup.specs.Parts.{Signature}
use Rattle.class_lookup.specs.Symbols.{symbol}
use Rattle.class_hierarchy.proofs.members.first_field.Given as goal

abbrev pub invariant-loop-class : goal.invariant-loop-class
invariant-loop-class l =
    (s : Signature) → symbol l.classes s.name ≡ Some l.name → symbol l.classes s.descriptor ≡ Some l.descriptor
    → first_some (map (declared_field l.classes s) (drop l.class-index l.list)) ≡ first_some (map (declared_field l.classes s) l.list)
