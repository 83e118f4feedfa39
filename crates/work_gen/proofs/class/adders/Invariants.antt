use Rattle.std.proofs.Common.{◌≡◌, ◌-◌, map}
use Rattle.std.specs.List.{range_with_len}
use Rattle.work_gen.specs.Work.{adder}
use Rattle.work_gen.proofs.class.adders.Given as goal

abbrev pub invariant-loop-k : goal.invariant-loop-k
invariant-loop-k l = l.methods.items ≡ map adder (range_with_len 1 (l.k - 1))
