use Rattle.std.proofs.Common.{◌≡◌, ◌<◌, ◌*◌, ◌^◌, sum_by, take}
use Rattle.bound_report.proofs.parts.call_loads.Given as goal

abbrev pub invariant-loop-c : goal.invariant-loop-c
invariant-loop-c l = sum_by (λ c. c.visits * c.loads) (take l.c-index l.nodes) < 2 ^ 128 → l.cycles ≡ sum_by (λ c. c.visits * c.loads) (take l.c-index l.nodes)
