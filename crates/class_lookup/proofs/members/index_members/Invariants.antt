use Rattle.std.proofs.Common.{◌≡◌, Some, take}
use Rattle.std.specs.Prelude.{slice_get}
use Rattle.class_pool.specs.declared.class.ClassFile.{ClassFile}
use Rattle.class_lookup.specs.Symbols.{texts}
use Rattle.class_lookup.specs.Numbered.{IsIndexed}
use Rattle.class_lookup.proofs.members.index_members.Given as goal

abbrev pub invariant-loop-i : goal.invariant-loop-i
invariant-loop-i l = (c : ClassFile) → slice_get l.classes l.class ≡ Some c → IsIndexed (texts l.classes) c (take l.i l.members) l.places.entries
