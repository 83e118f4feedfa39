use Rattle.std.proofs.Common.{◌≡◌, ◌/◌, map, take}
use Rattle.loop_rules.proofs.further.writes.places_of.Given as goal

abbrev pub invariant-loop-node : goal.invariant-loop-node
invariant-loop-node l = l.places.items ≡ map (λ x. x / 2) (take l.node-index l.nodes)
