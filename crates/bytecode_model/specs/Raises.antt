-- Which opcodes raise when they are run.
use Rattle.std.specs.Prelude.{◌≡◌, ℕ, true, List, ◌∷◌, Option, Some}
use Rattle.std.specs.Option.{IsSomeAnd}
use Rattle.opcodes.specs.Row as opcodes
use Rattle.bytecode_model.specs.declared.Ending.TheVariants.{Running, Raising}
use Rattle.bytecode_model.specs.State.{Frame, State}
use Rattle.bytecode_model.specs.Program.{Program, Limits, instr_at}
use Rattle.bytecode_model.specs.Steps.{step}

-- where a step from a running state comes to a raising one, the opcode of the top frame's instruction is marked as one that may raise
abbrev pub OnlyMarkedOnesRaise : Type 0
OnlyMarkedOnesRaise = (P : Program) (limits : Limits) (answer : Option ℕ) (s t : State) (f : Frame) (callers : List Frame) (p : ℕ)
    → s.frames ≡ f ∷ callers → s.mode ≡ Running → step P limits answer s ≡ Some t → t.mode ≡ Raising p
    → IsSomeAnd (instr_at P f.method f.pc) (λ i. (opcodes.row_of i.op).raises ≡ true)
