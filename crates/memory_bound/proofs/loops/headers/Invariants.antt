use Rattle.std.proofs.Common.{◌≡◌, take, map}
use Rattle.loop_nest.specs.Nest.{headers_of}
use Rattle.std.specs.Prelude.{slice_index}
use Rattle.memory_bound.proofs.loops.headers.Given as goal

abbrev pub invariant-loop-l : goal.invariant-loop-l
invariant-loop-l l = l.headers.items ≡ map (slice_index l.nodes) (headers_of (take l.l-index l.l-items))
