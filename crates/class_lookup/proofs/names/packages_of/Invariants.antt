use Rattle.std.proofs.Common.{◌≡◌, Some, take}
use Rattle.std.specs.List.{AllZip}
use Rattle.class_lookup.specs.Parts.{name_of, package_in}
use Rattle.class_lookup.specs.Numbered.{number_in}
use Rattle.class_lookup.proofs.names.packages_of.Given as goal

abbrev pub invariant-loop-class : goal.invariant-loop-class
invariant-loop-class l = AllZip (λ c n. number_in l.names (package_in (name_of c)) ≡ Some n) (take l.class-index l.classes) l.packages.items
