use Rattle.std.proofs.Common.{◌≡◌, List, Some, map, take}
use Rattle.fact_names.specs.declared.naming.Found.{Found}
use Rattle.fact_names.specs.Found.{count_of}
use Rattle.fact_names.proofs.making.facts_of.Given as goal

abbrev pub invariant-loop-i : goal.invariant-loop-i
invariant-loop-i l = (xs : List Found) × (take l.i l.found ≡ map (λ x. Some x) xs) × (l.counts.items ≡ map count_of xs)
