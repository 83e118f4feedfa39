use Rattle.std.proofs.Common.{◌≡◌, ◌++◌, map, take}
use Rattle.loop_finder.specs.Methods.{found_in}
use Rattle.loop_finder.proofs.finding.add_loops.Given as goal

abbrev pub invariant-loop-bound : goal.invariant-loop-bound
invariant-loop-bound l = l.found.items ≡ l.fn.found.items ++ map (found_in l.method) (take l.bound-index l.bounds)
