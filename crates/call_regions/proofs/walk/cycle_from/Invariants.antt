use Rattle.std.proofs.Common.{take}
use Rattle.call_regions.specs.Walking.{methods_of}
use Rattle.call_regions.proofs.Lists.{IsFrom}
use Rattle.call_regions.proofs.walk.cycle_from.Given as goal

abbrev pub invariant-loop-visit : goal.invariant-loop-visit
invariant-loop-visit l = IsFrom l.t (take l.visit-index (methods_of l.visits)) l.methods.items
