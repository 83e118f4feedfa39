use Rattle.std.proofs.Common.{◌≡◌, map, take}
use Rattle.node_costs.specs.Costs.{bound_of_node}
use Rattle.node_costs.proofs.bounds.bounds_of_headers.Given as goal

abbrev pub invariant-loop-header : goal.invariant-loop-header
invariant-loop-header l = l.bounds.items ≡ map (bound_of_node l.f l.b l.m) (take l.header-index l.headers)
