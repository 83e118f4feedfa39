-- A machine that stands for a running state, seen as the sketch on which a row of the microcode is followed.
use Rattle.std.specs.Prelude.{◌≡◌, ℕ, ◌+◌, List, ◌++◌, length, reverse}
use Rattle.std.specs.declared.option.Option.{Option}
use Rattle.micro_flow.specs.declared.CostParams.{CostParams}
use Rattle.jop_core.specs.State as machine
use Rattle.micro_sketch.specs.Sketch.{Sketch}
use Rattle.micro_sketch.specs.View.{sketch_of, env_of}
use Rattle.micro_sketch.specs.Row.{StandsAt, words_of, begins_row}
use Rattle.bytecode_model.specs.declared.Ending.TheVariants.{Running}
use Rattle.bytecode_model.specs.State.{State}
use Rattle.bytecode_model.specs.Program.{Program}
use Rattle.bytecode_model.specs.WellFormed.{IsWellFormed}
use Rattle.image_facts.specs.Places.{Places}
use Rattle.machine_stands.specs.Frames.{FrameWords, stacked}
use Rattle.machine_stands.specs.StandsFor.{StandsFor, limits_of}

-- the sketch whose stack are the operands and the saved words of the top frame; below these are its local variables, and the words of the other frames
abbrev pub seen : CostParams → (answers : List (Option ℕ)) → machine.MachineState → FrameWords → List FrameWords → Sketch
seen p answers m w below = begins_row p (sketch_of (length (stacked below) + length w.locals) (length w.operands + 3) answers m)

pub record IsSeen (n : ℕ) (p : CostParams) (answers : List (Option ℕ)) (m : machine.MachineState) (w : FrameWords) (below : List FrameWords) : Type 0 where
  pub stands : StandsAt n p m.opcode (seen p answers m w below) (env_of m) m
  pub words : words_of (seen p answers m w below) ≡ w.operands ++ reverse w.saved
  pub deep : (seen p answers m w below).deep ≡ stacked below ++ w.locals

abbrev pub MachinesAreSeen : Type 0
MachinesAreSeen = (P : Program) (pl : Places) (n size : ℕ) (m : machine.MachineState) (s : State) (p : CostParams) (answers : List (Option ℕ))
    (st : StandsFor P pl n size m s)
    → IsWellFormed P (limits_of P pl n size) s → s.mode ≡ Running → p.r ≡ m.port.read → p.w ≡ m.port.write → IsSeen n p answers m st.words st.below
