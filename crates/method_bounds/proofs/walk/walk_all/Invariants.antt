use Rattle.std.proofs.Common.{◌≡◌, ◌≢◌, ℕ, ◌<◌}
use Rattle.method_bounds.specs.declared.walk.State.TheVariants.{New}
use Rattle.method_bounds.specs.Walking.{IsAtRest, state_of}
use Rattle.method_bounds.proofs.walk.walk_all.Given as goal

abbrev pub invariant-loop-m : goal.invariant-loop-m
invariant-loop-m l = record { rest : IsAtRest l.f l.walk; come : (x : ℕ) → x < l.m → state_of l.walk.states.items x ≢ New }
