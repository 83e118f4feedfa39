use Rattle.std.proofs.Common.{◌≡◌, map, take}
use Rattle.bound_finder.proofs.telling.goes_on.Given as goal

abbrev pub invariant-loop-told : goal.invariant-loop-told
invariant-loop-told l = l.goes.items ≡ map (λ s. s.goes_on) (take l.told-index l.told)
