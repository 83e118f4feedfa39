use Rattle.std.proofs.Common.{◌≡◌, drop, find}
use Rattle.std.specs.Prelude.{not, is_ok}
use Rattle.opcodes.specs.Instruction.{decoded}
use Rattle.bytecode_verifier.proofs.methods.first_bad.Given as goal

abbrev pub invariant-loop-place : goal.invariant-loop-place
invariant-loop-place l = find (λ pc. not (is_ok (decoded l.code pc))) (drop l.place-index l.starts) ≡ find (λ pc. not (is_ok (decoded l.code pc))) l.starts
