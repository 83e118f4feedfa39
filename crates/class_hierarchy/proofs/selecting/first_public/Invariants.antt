use Rattle.std.proofs.Common.{◌≡◌, drop}
use Rattle.std.specs.List.{filter_map, find}
use Rattle.class_lookup.specs.Selection.{is_public_instance}
use Rattle.class_hierarchy.specs.Members.{declared_as}
use Rattle.class_hierarchy.proofs.selecting.first_public.Given as goal

abbrev pub invariant-loop-class : goal.invariant-loop-class
invariant-loop-class l = find (is_public_instance l.classes) (filter_map (declared_as l.classes l.method.place) (drop l.class-index l.list)) ≡ find (is_public_instance l.classes) (filter_map (declared_as l.classes l.method.place) l.list)
