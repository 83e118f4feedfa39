use Rattle.std.proofs.Common.{take}
use Rattle.section_check.specs.Least.{IsLeast}
use Rattle.bound_finder.specs.Sharing.{IsBesideCalled}
use Rattle.bound_finder.proofs.sharing.least_called.Given as goal

abbrev pub invariant-loop-call : goal.invariant-loop-call
invariant-loop-call l = IsLeast (IsBesideCalled l.f (take l.call-index l.calls) l.least) l.found
