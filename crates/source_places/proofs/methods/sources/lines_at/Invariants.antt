use Rattle.std.proofs.Common.{◌≡◌, take}
use Rattle.std.specs.List.{filter_map}
use Rattle.source_places.specs.Methods.Told.{line_at}
use Rattle.source_places.proofs.methods.sources.lines_at.Given as goal

abbrev pub invariant-loop-place : goal.invariant-loop-place
invariant-loop-place l = l.found.items ≡ filter_map (line_at l.lines) (take l.place-index l.places)
