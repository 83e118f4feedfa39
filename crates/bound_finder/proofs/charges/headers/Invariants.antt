use Rattle.std.proofs.Common.{◌≡◌, slice_index, take}
use Rattle.loop_nest.specs.Nest.{headers_of}
use Rattle.compact_walks.specs.Moving.{moved_nest}
use Rattle.bound_finder.proofs.charges.headers.Given as goal

abbrev pub invariant-loop-l : goal.invariant-loop-l
invariant-loop-l l = l.headers.items ≡ headers_of (moved_nest (slice_index l.fn.s.nodes) (take l.l-index l.fn.s.nest))
