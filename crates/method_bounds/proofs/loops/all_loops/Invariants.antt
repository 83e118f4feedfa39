use Rattle.std.proofs.Common.{◌≡◌, length}
use Rattle.method_bounds.specs.Loops.{AreLoopsOf}
use Rattle.method_bounds.proofs.loops.all_loops.Given as goal

abbrev pub invariant-loop-m : goal.invariant-loop-m
invariant-loop-m l = record { long : length l.loops.items ≡ l.m; each : AreLoopsOf l.f l.b l.loops.items }
