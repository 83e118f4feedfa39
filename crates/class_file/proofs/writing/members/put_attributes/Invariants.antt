use Rattle.std.proofs.Common.{◌≡◌, ◌++◌, length, take}
use Rattle.std.specs.List.{flat_map}
use Rattle.class_pool.specs.Spelling.{u2}
use Rattle.class_pool.specs.ClassSpelling.{attribute_bytes}
use Rattle.class_file.proofs.writing.members.put_attributes.Given as goal

abbrev pub invariant-loop-a : goal.invariant-loop-a
invariant-loop-a l = l.out.items ≡ l.fn.out.items ++ (u2 (length l.attributes) ++ flat_map attribute_bytes (take l.a-index l.attributes))
