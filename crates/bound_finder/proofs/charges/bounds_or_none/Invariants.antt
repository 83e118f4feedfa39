use Rattle.std.proofs.Common.{◌≡◌, map, take}
use Rattle.std.specs.Prelude.{unwrap_or}
use Rattle.bound_finder.proofs.charges.bounds_or_none.Given as goal

abbrev pub invariant-loop-bound : goal.invariant-loop-bound
invariant-loop-bound l = l.bounds.items ≡ map (λ o. unwrap_or o 0) (take l.bound-index l.found)
