use Rattle.known_ints.proofs.Filling.{AreFilled}
use Rattle.known_ints.proofs.parts.parts.Given as goal

abbrev pub invariant-loop-place : goal.invariant-loop-place
invariant-loop-place l = AreFilled l.method l.sites l.arrays l.place-items l.place-index l.parts.items
