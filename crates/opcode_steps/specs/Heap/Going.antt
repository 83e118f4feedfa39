-- Rows that write a static field or a value of an object, as runs of the machine to the next state.
use Rattle.std.specs.Prelude.{◌≡◌, ℕ, List, [], ◌∷◌, ◌++◌, length, drop, reverse, None}
use Rattle.std.specs.declared.option.Option.{Option}
use Rattle.opcodes.specs.declared.instruction.Instr.{Instr}
use Rattle.jop_core.specs.State as machine
use Rattle.micro_sketch.specs.Sketch.{Sketch}
use Rattle.micro_sketch.specs.View.{env_of}
use Rattle.micro_sketch.specs.Row as row
use Rattle.micro_sketch.specs.Rows.{RunsRow}
use Rattle.bytecode_model.specs.declared.Value.{Value}
use Rattle.bytecode_model.specs.declared.Ending.TheVariants.{Running}
use Rattle.bytecode_model.specs.State.{Object, State}
use Rattle.bytecode_model.specs.Program.{Program}
use Rattle.bytecode_model.specs.Rows.{Row}
use Rattle.bytecode_model.specs.Steps.{with_top}
use Rattle.image_facts.specs.Places.{Places, object_place}
use Rattle.machine_stands.specs.Frames.{AreLocals, AreOperands, stacked}
use Rattle.machine_stands.specs.StandsFor.{StandsFor, memory_of}
use Rattle.machine_stands.specs.Comes.{params, ComesTo}
use Rattle.machine_stands.specs.Simulates.{IsStep}
use Rattle.machine_stands.specs.Seen.{seen}
use Rattle.machine_stands.specs.Reading.{IsAtRow}
use Rattle.opcode_steps.specs.Heap.Writing.{SamePlaces}

-- of x the row makes the words of the frame with these local variables and operands, at a place, and the memory of the state with these static fields
-- and objects
pub record WritesFrame (P : Program) (pl : Places) (n size : ℕ) (m : machine.MachineState) (s : State) (st : StandsFor P pl n size m s) (statics : List Value)
    (objects : List Object) (pc : ℕ) (locals operands : List Value) (x : Sketch)
    (f : row.Effect) : Type 0 where
  pub local_words : List ℕ
  pub operand_words : List ℕ
  pub are_locals : AreLocals (object_place P pl s.objects) locals local_words
  pub are_operands : AreOperands (object_place P pl s.objects) operands operand_words
  pub stack : f.words ≡ operand_words ++ reverse st.words.saved
  pub deep : f.deep ≡ stacked st.below ++ local_words
  pub low : f.low ≡ drop 24 x.low
  pub memory : f.memory ≡ memory_of P pl size (record s { statics = statics; objects = objects })
  pub as_many : length f.memory ≡ length m.port.words
  pub jpc : f.jpc ≡ pc
  pub answers : f.answers ≡ x.answers
  pub output : f.output ≡ []

-- So the machine comes to the next state, in which the objects lie where they did.
abbrev pub WritesGoOn : Type 0
WritesGoOn = (P : Program) (pl : Places) (n size : ℕ) (m : machine.MachineState) (answer : Option ℕ) (s s' : State) (h : IsStep P pl n size m answer s s')
    (i : Instr)
    (r : Row) (statics : List Value) (objects : List Object)
    (pc : ℕ) (locals operands : List Value) (f : row.Effect) → s.mode ≡ Running → IsAtRow P pl n size m answer s s' h.stands i r
    → s' ≡ with_top (record s { statics = statics; objects = objects }) h.stands.callers (record h.stands.top { pc = pc; locals = locals; operands = operands })
    → SamePlaces P pl s.objects objects
    → WritesFrame P pl n size m s h.stands statics objects pc locals operands (seen (params m i.count 0) (None ∷ []) m h.stands.words h.stands.below) f
    → RunsRow n (params m i.count 0) m.opcode f (seen (params m i.count 0) (None ∷ []) m h.stands.words h.stands.below) (env_of m)
    → ComesTo P pl n size m s s'
