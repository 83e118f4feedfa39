use Rattle.std.proofs.Common.{◌≡◌, take}
use Rattle.bound_rules.specs.Costs.{greatest_of}
use Rattle.bound_finder.specs.Known.{known_at}
use Rattle.bound_finder.specs.Telling.{with_back}
use Rattle.bound_finder.proofs.telling.told_of.Given as goal

abbrev pub invariant-loop-x : goal.invariant-loop-x
invariant-loop-x l = record {
  inside : l.inside ≡ greatest_of (λ x. (known_at l.table x).asked) (take l.x-index l.targets);
  full : l.full ≡ greatest_of (λ x. with_back l.back (known_at l.table x).full) (take l.x-index l.targets);
}
