use Rattle.std.proofs.Common.{◌≡◌, ◌<◌, ℕ, None}
use Rattle.bytecode_verifier.specs.Failure.{method_failure}
use Rattle.bytecode_verifier.proofs.methods.first_failure.Given as goal

abbrev pub invariant-loop-number : goal.invariant-loop-number
invariant-loop-number l = (n : ℕ) → n < l.number → method_failure l.program n ≡ None
