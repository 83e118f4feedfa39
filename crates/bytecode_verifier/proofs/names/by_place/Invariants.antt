use Rattle.std.proofs.Common.{length}
use Rattle.bytecode_verifier.proofs.NameLemmas.{ArePlaced}
use Rattle.bytecode_verifier.proofs.names.by_place.Given as goal

abbrev pub invariant-loop-place : goal.invariant-loop-place
invariant-loop-place l = ArePlaced l.length l.fn.frames.items l.frames.items l.places.items

abbrev pub decreases-loop-place : goal.decreases-loop-place
decreases-loop-place l = length l.frames.items
