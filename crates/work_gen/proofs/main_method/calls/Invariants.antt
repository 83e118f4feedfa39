use Rattle.std.proofs.Common.{◌≡◌, ◌-◌}
use Rattle.std.specs.Prelude.{filter}
use Rattle.std.specs.List.{flat_map, range_with_len}
use Rattle.work_gen.specs.Work.{is_called, call_of}
use Rattle.work_gen.proofs.main_method.calls.Given as goal

abbrev pub invariant-loop-k : goal.invariant-loop-k
invariant-loop-k l = l.pieces.items ≡ flat_map call_of (filter (is_called l.n) (range_with_len 1 (l.k - 1)))
