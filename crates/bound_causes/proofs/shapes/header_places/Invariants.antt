use Rattle.std.proofs.Common.{◌≡◌, ℕ, ◌/◌, map, take}
use Rattle.std.specs.Prelude.{slice_index}
use Rattle.loop_nest.specs.Nest.{headers_of}
use Rattle.bound_causes.proofs.shapes.header_places.Given as goal

abbrev pub invariant-loop-nested : goal.invariant-loop-nested
invariant-loop-nested l = l.places.items ≡ map (λ (h : ℕ). slice_index l.numbers h / 2) (headers_of (take l.nested-index l.loops))
