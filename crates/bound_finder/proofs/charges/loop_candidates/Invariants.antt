use Rattle.std.proofs.Common.{◌≡◌, length}
use Rattle.bound_finder.specs.Known.{ForEach}
use Rattle.bound_finder.specs.Prepared.{AreCandidates}
use Rattle.bound_finder.proofs.charges.loop_candidates.Given as goal

abbrev pub invariant-loop-l : goal.invariant-loop-l
invariant-loop-l l = record { long : length l.candidates.items ≡ l.l-index; each : ForEach l.task (λ P. AreCandidates P l.task.timing l.m l.s l.candidates.items) }
