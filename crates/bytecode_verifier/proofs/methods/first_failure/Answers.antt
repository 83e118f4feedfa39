use Rattle.std.proofs.Common.{inl, inr, arith}
use Rattle.std.proofs.lemmas.Bool.{cases_lt}
use Rattle.bytecode_verifier.specs.Failure.{IsVerified}
use Rattle.bytecode_verifier.proofs.MethodLemmas.{past_methods}
use Rattle.bytecode_verifier.proofs.methods.first_failure.Goals as goal

pub returns : goal.returns
unfolding IsVerified
returns c = λ n.
    elim (cases_lt n c.loop-number.number) [
      | inl below ↦ c.loop-number.invariant n below
      | inr past ↦ (let end = c.loop-number-test.false in let count = c.method_count-number-end.ensures in past_methods c.args.program.now n (omega (arith, past, end, count)))
    ]
