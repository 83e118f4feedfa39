use Rattle.std.proofs.Common.{◌≡◌, length}
use Rattle.fact_names.specs.Found.{AreFoundIn}
use Rattle.fact_names.proofs.naming.found_of.Given as goal

abbrev pub invariant-loop-method : goal.invariant-loop-method
invariant-loop-method l = AreFoundIn l.f l.lines l.method l.found.items × (length l.found.items ≡ length l.lines)
