-- The operations that have a code of their own, in the order of their codes.
use Rattle.std.specs.Prelude.{ℕ, List, [], ◌∷◌, get_or}
use Rattle.microcode.specs.declared.isa.operation.Operation.{Operation}
use Rattle.microcode.specs.declared.isa.operation.Operation.TheVariants.{Nop, Pop, Dup, Add, Sub, And, Or, Xor}
use Rattle.microcode.specs.declared.isa.operation.Operation.TheVariants.{Shl, Shr, Ushr, Mul, Slt, Sltu, Ldo, Ldo8, Ldo16}
use Rattle.microcode.specs.declared.isa.operation.Operation.TheVariants.{Ldl, Stl, Ld0, Ld1, Ld2, Ld3, St0, St1, St2, St3, Ldvp, Stvp, Ldsp, Stsp, Ldjpc, Stjpc}
use Rattle.microcode.specs.declared.isa.operation.Operation.TheVariants.{Star, Ldmi, Stmi, Stmra, Stmwa, Stmwd, Wait, Ldmrd, Stbc, Jbr, Jbg, Ldin, Stout, Hltb}
use Rattle.microcode.specs.declared.isa.operation.Operation.TheVariants.{Hltu}

abbrev pub operations : List Operation
operations =
    Nop ∷ Pop ∷ Dup ∷ Add ∷ Sub ∷ And ∷ Or ∷ Xor
    ∷ Shl ∷ Shr ∷ Ushr ∷ Mul ∷ Slt ∷ Sltu ∷ Ldo ∷ Ldo8
    ∷ Ldo16 ∷ Ldl ∷ Stl ∷ Ld0 ∷ Ld1 ∷ Ld2 ∷ Ld3 ∷ St0
    ∷ St1 ∷ St2 ∷ St3 ∷ Ldvp ∷ Stvp ∷ Ldsp ∷ Stsp ∷ Ldjpc
    ∷ Stjpc ∷ Star ∷ Ldmi ∷ Stmi ∷ Stmra ∷ Stmwa ∷ Stmwd ∷ Wait
    ∷ Ldmrd ∷ Stbc ∷ Jbr ∷ Jbg ∷ Ldin ∷ Stout ∷ Hltb ∷ Hltu ∷ []

-- the operation of a code; there are 48
abbrev pub operation_of : ℕ → Operation
operation_of code = get_or operations code Hltu
