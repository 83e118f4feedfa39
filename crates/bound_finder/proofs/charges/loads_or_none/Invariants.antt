use Rattle.std.proofs.Common.{◌≡◌, map, take}
use Rattle.std.specs.Prelude.{unwrap_or}
use Rattle.bound_finder.proofs.charges.loads_or_none.Given as goal

abbrev pub invariant-loop-candidate : goal.invariant-loop-candidate
invariant-loop-candidate l = l.loads.items ≡ map (λ o. unwrap_or o 0) (take l.candidate-index l.candidates)
