use Rattle.std.proofs.Common.{take}
use Rattle.fact_checker.specs.Index.{IsIndexed}
use Rattle.fact_checker.proofs.fact_index.places.Given as goal

abbrev pub invariant-loop-place : goal.invariant-loop-place
invariant-loop-place l = IsIndexed (take l.place l.facts) l.places.entries
