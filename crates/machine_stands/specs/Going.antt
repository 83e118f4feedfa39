-- Rows whose effect is to go on in the frame, or to raise, as runs of the machine to the next state.
use Rattle.std.specs.Prelude.{◌≡◌, ℕ, ◌+◌, ◌<◌, ◌≤◌, List, [], ◌∷◌, ◌++◌, length, drop, reverse, None}
use Rattle.std.specs.declared.option.Option.{Option}
use Rattle.opcodes.specs.declared.instruction.Instr.{Instr}
use Rattle.jop_core.specs.State as machine
use Rattle.micro_sketch.specs.Sketch.{Sketch}
use Rattle.micro_sketch.specs.View.{env_of}
use Rattle.micro_sketch.specs.Row as row
use Rattle.micro_sketch.specs.Rows as rows
use Rattle.micro_sketch.specs.Rows.{RunsRow, RunsToRaise}
use Rattle.bytecode_model.specs.declared.Value.{Value}
use Rattle.bytecode_model.specs.declared.Ending.TheVariants.{Running}
use Rattle.bytecode_model.specs.State.{State}
use Rattle.bytecode_model.specs.Program.{Program}
use Rattle.bytecode_model.specs.Rows.{Row}
use Rattle.bytecode_model.specs.Effects.{Go, Raise, effect}
use Rattle.image_facts.specs.Places.{Places, object_place}
use Rattle.machine_stands.specs.Frames.{AreLocals, AreOperands, stacked}
use Rattle.machine_stands.specs.StandsFor.{StandsFor, limits_of}
use Rattle.machine_stands.specs.Comes.{params, ComesTo}
use Rattle.machine_stands.specs.Simulates.{IsStep}
use Rattle.machine_stands.specs.Seen.{seen}
use Rattle.machine_stands.specs.Reading.{IsAtRow}

-- of x the row makes the words of the frame with these local variables and operands, at a place, and changes nothing else
pub record MakesFrame (P : Program) (pl : Places) (n size : ℕ) (m : machine.MachineState) (s : State) (st : StandsFor P pl n size m s) (pc : ℕ)
    (locals operands : List Value) (x : Sketch) (f : row.Effect) : Type 0 where
  pub local_words : List ℕ
  pub operand_words : List ℕ
  pub are_locals : AreLocals (object_place P pl s.objects) locals local_words
  pub are_operands : AreOperands (object_place P pl s.objects) operands operand_words
  pub stack : f.words ≡ operand_words ++ reverse st.words.saved
  pub deep : f.deep ≡ stacked st.below ++ local_words
  pub low : f.low ≡ drop 24 x.low
  pub memory : f.memory ≡ x.memory
  pub jpc : f.jpc ≡ pc
  pub answers : f.answers ≡ x.answers
  pub output : f.output ≡ []

abbrev pub FramesGoOn : Type 0
FramesGoOn = (P : Program) (pl : Places) (n size : ℕ) (m : machine.MachineState) (answer : Option ℕ) (s s' : State) (h : IsStep P pl n size m answer s s')
    (i : Instr)
    (r : Row) (pc : ℕ) (locals operands : List Value) (f : row.Effect)
    → s.mode ≡ Running → IsAtRow P pl n size m answer s s' h.stands i r
    → effect P (limits_of P pl n size) s h.stands.top (h.stands.top.pc + i.length) r ≡ Go pc locals operands
    → MakesFrame P pl n size m s h.stands pc locals operands (seen (params m i.count 0) (None ∷ []) m h.stands.words h.stands.below) f
    → RunsRow n (params m i.count 0) m.opcode f (seen (params m i.count 0) (None ∷ []) m h.stands.words h.stands.below) (env_of m)
    → ComesTo P pl n size m s s'

-- the row leaves some words above those that the frame saves; jpc is past a byte of the instruction, and the object lies at its place
pub record LeavesFrame (P : Program) (pl : Places) (n size : ℕ) (m : machine.MachineState) (s : State) (st : StandsFor P pl n size m s) (i : Instr) (object : ℕ)
    (f : rows.Raising) : Type 0 where
  pub left : List ℕ
  pub few : length left ≤ st.body.max_stack
  pub stack : f.words ≡ left ++ reverse st.words.saved
  pub from : st.top.pc < f.jpc
  pub to : f.jpc ≤ st.top.pc + i.length
  pub place : f.object ≡ object_place P pl s.objects object

abbrev pub FramesRaise : Type 0
FramesRaise = (P : Program) (pl : Places) (n size : ℕ) (m : machine.MachineState) (answer : Option ℕ) (s s' : State) (h : IsStep P pl n size m answer s s')
    (i : Instr)
    (r : Row) (object : ℕ) (f : rows.Raising)
    → s.mode ≡ Running → IsAtRow P pl n size m answer s s' h.stands i r
    → effect P (limits_of P pl n size) s h.stands.top (h.stands.top.pc + i.length) r ≡ Raise object
    → LeavesFrame P pl n size m s h.stands i object f
    → RunsToRaise n (params m i.count 0) m.opcode f (seen (params m i.count 0) (None ∷ []) m h.stands.words h.stands.below) (env_of m)
    → ComesTo P pl n size m s s'
