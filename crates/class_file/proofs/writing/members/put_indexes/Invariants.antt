use Rattle.std.proofs.Common.{◌≡◌, ◌++◌, length, take}
use Rattle.std.specs.List.{flat_map}
use Rattle.class_pool.specs.Spelling.{u2}
use Rattle.class_file.proofs.writing.members.put_indexes.Given as goal

abbrev pub invariant-loop-index : goal.invariant-loop-index
invariant-loop-index l = l.out.items ≡ l.fn.out.items ++ (u2 (length l.indexes) ++ flat_map u2 (take l.index-index l.indexes))
