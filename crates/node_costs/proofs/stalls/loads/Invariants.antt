use Rattle.std.proofs.Common.{◌≡◌, ◌*◌, ◌^◌, ◌≤◌, take, sum_by}
use Rattle.node_costs.specs.Costs.{method_load}
use Rattle.node_costs.proofs.stalls.loads.Given as goal

abbrev pub invariant-loop-m : goal.invariant-loop-m
invariant-loop-m l = record { cycles : l.cycles ≡ sum_by (method_load l.read l.f.methods) (take l.m-index l.methods); small : l.cycles ≤ l.m-index * 2 ^ 21 }
