use Rattle.std.proofs.Common.{◌≡◌}
use Rattle.call_regions.specs.Walking.{IsWalk, steps_left}
use Rattle.call_regions.proofs.walk.run.Given as goal

abbrev pub invariant-loop-visit : goal.invariant-loop-visit
invariant-loop-visit l = record { walk : IsWalk l.f l.walk l.walk.visits.items; root : l.walk.root ≡ l.initial.walk.root }

abbrev pub decreases-loop-visit : goal.decreases-loop-visit
decreases-loop-visit l = steps_left l.walk.states.items
