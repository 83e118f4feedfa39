use Rattle.std.proofs.Common.{◌≡◌, ◌++◌, map, drop}
use Rattle.frame_types.specs.Extents.{shape, extents_behind}
use Rattle.frame_types.proofs.extents.push_all.Given as goal

abbrev pub invariant-loop-t : goal.invariant-loop-t
invariant-loop-t l = l.extents.items ++ extents_behind l.last (map shape (drop l.t-index l.types)) ≡ l.initial.extents.items ++ extents_behind l.fn.before (map shape l.types)
