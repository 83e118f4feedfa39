use Rattle.std.proofs.Common.{◌≡◌, ◌-◌}
use Rattle.std.specs.List.{flat_map, range_with_len}
use Rattle.work_gen.specs.Work.{bound_line}
use Rattle.work_gen.proofs.bounds.work_bounds.Given as goal

abbrev pub invariant-loop-k : goal.invariant-loop-k
invariant-loop-k l = l.text.items ≡ flat_map bound_line (range_with_len 1 (l.k - 1))
