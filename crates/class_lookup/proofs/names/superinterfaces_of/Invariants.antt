use Rattle.std.proofs.Common.{◌≡◌, map, take, Some}
use Rattle.std.specs.Prelude.{slice_get}
use Rattle.std.specs.List.{filter_map}
use Rattle.class_pool.specs.declared.class.ClassFile.{ClassFile}
use Rattle.class_lookup.specs.Parts.{class_text}
use Rattle.class_lookup.specs.Hierarchy.{find_class}
use Rattle.class_lookup.proofs.names.superinterfaces_of.Given as goal

abbrev pub invariant-loop-index : goal.invariant-loop-index
invariant-loop-index l = (c : ClassFile) → slice_get l.classes l.class ≡ Some c → l.found.items ≡ filter_map (find_class l.classes) (map (class_text c.pool) (take l.index-index c.interfaces))
