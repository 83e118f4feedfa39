use Rattle.std.proofs.Common.{◌≡◌, ℕ, ◌/◌, map, take}
use Rattle.std.specs.Prelude.{slice_index}
use Rattle.loop_nest.specs.Nest.{headers_of}
use Rattle.loop_finder.proofs.headers.header_places.Given as goal

abbrev pub invariant-loop-l : goal.invariant-loop-l
invariant-loop-l l = l.places.items ≡ map (λ (h : ℕ). slice_index l.nodes h / 2) (headers_of (take l.l-index l.loops))
