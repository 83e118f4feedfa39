use Rattle.std.proofs.Common.{◌≡◌, Some, take}
use Rattle.std.specs.List.{filter_map}
use Rattle.class_lookup.specs.Parts.{Signature}
use Rattle.class_lookup.specs.Lookup.{declared_method}
use Rattle.class_lookup.specs.Symbols.{symbol}
use Rattle.class_checks.proofs.placed.upwards.Given as goal

abbrev pub invariant-loop-class : goal.invariant-loop-class
invariant-loop-class l = (s : Signature) → symbol l.classes s.name ≡ Some l.name → symbol l.classes s.descriptor ≡ Some l.descriptor → l.places.items ≡ filter_map (declared_method l.classes s) (take l.class-index l.chain)
