use Rattle.std.proofs.Common.{◌≡◌, map, take}
use Rattle.node_costs.specs.Costs.{bounds_of}
use Rattle.bound_rules.specs.Fitting.{header_bounds}
use Rattle.cert_checker.proofs.prices.loop_bounds.Given as goal

abbrev pub invariant-loop-l : goal.invariant-loop-l
invariant-loop-l l = l.bounds.items ≡ header_bounds (bounds_of l.task.flow l.task.bounds) l.s.method (map (λ k. k.header) (take l.l-index l.s.section.loops))
