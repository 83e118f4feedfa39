use Rattle.std.proofs.Common.{length}
use Rattle.source_headers.specs.Found.{IsLeftFrom}
use Rattle.source_headers.proofs.found.from_place.Given as goal

abbrev pub invariant-loop-left : goal.invariant-loop-left
invariant-loop-left l = IsLeftFrom l.found l.left l.method l.place

abbrev pub decreases-loop-left : goal.decreases-loop-left
decreases-loop-left l = length l.left
