use Rattle.std.proofs.Common.{◌≡◌, take, map}
use Rattle.class_making.specs.Plans.{class_index}
use Rattle.class_making.proofs.classes.class_indexes.Given as goal

abbrev pub invariant-loop-name : goal.invariant-loop-name
invariant-loop-name l = l.indexes.items ≡ map (class_index l.maker) (take l.name-index l.names)
