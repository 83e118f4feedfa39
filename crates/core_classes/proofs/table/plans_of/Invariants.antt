use Rattle.std.proofs.Common.{◌≡◌, take, map}
use Rattle.core_classes.specs.Core.{error_of}
use Rattle.core_classes.proofs.table.plans_of.Given as goal

abbrev pub invariant-loop-error : goal.invariant-loop-error
invariant-loop-error l = l.plans.items ≡ map error_of (take l.error-index l.errors)
