use Rattle.std.proofs.Common.{◌≡◌, ◌++◌, take}
use Rattle.std.specs.List.{flat_map}
use Rattle.class_pool.specs.Utf8.{unit_bytes}
use Rattle.class_pool.proofs.utf8.put_text.Given as goal

abbrev pub invariant-loop-unit : goal.invariant-loop-unit
invariant-loop-unit l = l.out.items ≡ l.fn.out.items ++ flat_map unit_bytes (take l.unit-index l.units)
