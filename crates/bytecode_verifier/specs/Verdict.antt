-- What is answered of a program.
use Rattle.std.specs.Prelude.{◌≡◌, ℕ, List, Option, Some, None}
use Rattle.class_pool.specs.declared.class.ClassFile.{ClassFile}
use Rattle.bytecode_verifier.specs.declared.fault.MethodRule.{MethodRule}
use Rattle.bytecode_verifier.specs.declared.fault.VerifyFault.{VerifyFault}
use Rattle.bytecode_verifier.specs.declared.fault.VerifyFault.TheVariants.{At, NoMemory}
use Rattle.bytecode_verifier.specs.Failure.{IsVerified, FailsFirst, broken_seen}

-- a fault has what fails first, or says that memory ran out; it gives the program back
abbrev pub IsFaultOf : List ClassFile → VerifyFault → Type 0
IsFaultOf cs (At method pc rule program) = FailsFirst cs method pc (broken_seen rule) × (program ≡ cs)
IsFaultOf cs (NoMemory program) = program ≡ cs

-- the least method in which a rule fails, with the place and the rule, or none
abbrev pub IsFirstFailure : List ClassFile → Option (ℕ × ℕ × MethodRule) → Type 0
IsFirstFailure cs None = IsVerified cs
IsFirstFailure cs (Some x) = FailsFirst cs x.0 x.1 (broken_seen x.2)
