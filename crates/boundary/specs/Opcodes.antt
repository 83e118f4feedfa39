-- The instruction at which a state stands.
use Rattle.std.specs.Prelude.{ℕ, Some, None}
use Rattle.std.specs.declared.option.Option.{Option}
use Rattle.opcodes.specs.Bytes.{u1}
use Rattle.bytecode_model.specs.declared.Ending.{Ending}
use Rattle.bytecode_model.specs.declared.Ending.TheVariants.{Running}
use Rattle.bytecode_model.specs.Lists.{onto}
use Rattle.bytecode_model.specs.State.{State}
use Rattle.bytecode_model.specs.Program.{Program, body_of}
use Rattle.machine_stands.specs.ShownFrames.Shows.{top_frame}

-- its opcode
abbrev pub opcode_of : Program → State → Option ℕ
opcode_of P s = onto (top_frame s.frames) (λ f. onto (body_of P f.method) (λ b. Some (u1 b.code f.pc)))

abbrev pub opcode_in : Program → State → Ending → Option ℕ
opcode_in P s Running = opcode_of P s
opcode_in P s mode = None

-- the opcode of the instruction that is about to run; there is none while an object is raised
abbrev pub next_opcode : Program → State → Option ℕ
next_opcode P s = opcode_in P s s.mode
