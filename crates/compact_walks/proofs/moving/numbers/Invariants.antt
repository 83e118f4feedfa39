use Rattle.std.proofs.Common.{◌≡◌, map, slice_index, take}
use Rattle.compact_walks.proofs.moving.numbers.Given as goal

abbrev pub invariant-loop-u : goal.invariant-loop-u
invariant-loop-u l = l.numbers.items ≡ map (slice_index l.nodes) (take l.u-index l.us)
