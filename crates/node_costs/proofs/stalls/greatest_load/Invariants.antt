use Rattle.std.proofs.Common.{◌<◌, ◌^◌}
use Rattle.node_costs.proofs.Loading.{IsGreatestBelow}
use Rattle.node_costs.proofs.stalls.greatest_load.Given as goal

abbrev pub invariant-loop-m : goal.invariant-loop-m
invariant-loop-m l = record { is : IsGreatestBelow l.read l.f.methods l.m l.greatest; small : l.greatest < 2 ^ 21 }
