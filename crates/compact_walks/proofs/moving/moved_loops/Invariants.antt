use Rattle.std.proofs.Common.{◌≡◌, ◌^◌, ◌<◌, All, map, slice_index, take}
use Rattle.section_check.specs.Renumbering.{moved_loop}
use Rattle.compact_walks.proofs.moving.moved_loops.Given as goal

abbrev pub invariant-loop-l : goal.invariant-loop-l
invariant-loop-l l = (l.moved.items ≡ map (moved_loop (slice_index l.nodes)) (take l.l-index l.loops)) × All (λ k. k.iteration_cost < 2 ^ 64) l.moved.items
