use Rattle.std.proofs.Common.{◌≡◌, map, slice_index, take}
use Rattle.compact_walks.proofs.moving.moved_nodes.Given as goal

abbrev pub invariant-loop-u : goal.invariant-loop-u
invariant-loop-u l = l.moved.items ≡ map (λ p. (slice_index l.nodes p.0, p.1)) (take l.u-index l.listed)
