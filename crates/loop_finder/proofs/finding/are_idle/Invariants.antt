use Rattle.std.proofs.Common.{take, All}
use Rattle.std.specs.Prelude.{slice_index}
use Rattle.loop_acts.specs.Writing.{IsIdle}
use Rattle.loop_finder.proofs.finding.are_idle.Given as goal

abbrev pub invariant-loop-u : goal.invariant-loop-u
invariant-loop-u l = All (λ u. IsIdle l.acts (slice_index l.nodes u)) (take l.u-index l.members)
