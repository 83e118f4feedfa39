use Rattle.std.proofs.Common.{◌≡◌, ◌≢◌, ℕ}
use Rattle.method_bounds.specs.declared.walk.State.TheVariants.{New}
use Rattle.method_bounds.specs.Walking.{IsWalk, state_of, steps_left}
use Rattle.method_bounds.proofs.walk.run.Given as goal

abbrev pub invariant-loop-visit : goal.invariant-loop-visit
invariant-loop-visit l = record {
  walk : IsWalk l.f l.walk l.walk.visits.items;
  come : (x : ℕ) → state_of l.initial.walk.states.items x ≢ New → state_of l.walk.states.items x ≢ New;
}

abbrev pub decreases-loop-visit : goal.decreases-loop-visit
decreases-loop-visit l = steps_left l.walk.states.items
