-- When a machine stands again, after a row that stays in its frame.
use Rattle.std.specs.Prelude.{◌≡◌, ℕ, ◌-◌, List, [], ◌∷◌, ◌++◌, length, reverse, Some, None}
use Rattle.std.specs.declared.option.Option.{Option}
use Rattle.micro_flow.specs.declared.CostParams.{CostParams}
use Rattle.opcodes.specs.declared.instruction.Instr.{Instr}
use Rattle.jop_core.specs.State as machine
use Rattle.micro_sketch.specs.Sketch.{Sketch}
use Rattle.micro_sketch.specs.Stands.{Env}
use Rattle.micro_sketch.specs.View.{env_of}
use Rattle.micro_sketch.specs.Row.{StandsAt, Effect, DidRow}
use Rattle.micro_sketch.specs.Rows.{Makes, RunsRow}
use Rattle.bytecode_model.specs.declared.Ending.TheVariants.{Running}
use Rattle.bytecode_model.specs.State.{Frame, State}
use Rattle.bytecode_model.specs.Program.{Program, instr_at}
use Rattle.bytecode_model.specs.Sizes.{frames_words}
use Rattle.bytecode_model.specs.WellFormed.{IsWellFormed}
use Rattle.image_facts.specs.Places.{Places, object_place, end_of, pool_of}
use Rattle.image_facts.specs.Says.{Says}
use Rattle.machine_stands.specs.Frames.{AreLocals, AreOperands, FrameWords, AreWordsOfFrames, stacked}
use Rattle.machine_stands.specs.StandsFor.{StandsFor, limits_of, memory_of}
use Rattle.machine_stands.specs.Comes.{params, ComesTo}
use Rattle.machine_stands.specs.Simulates.{IsStep}
use Rattle.machine_stands.specs.Seen.{seen}

-- the words at the places from POOL to RAISED
abbrev pub registers_of : Program → Places → (n size : ℕ) → State → (top : Frame) → (raised : ℕ) → List ℕ
registers_of P pl n size s top raised =
    pool_of P pl top.method ∷ pl.method top.method ∷ end_of P pl s.objects ∷ size ∷ frames_words P s.frames ∷ (n - 80) ∷ pl.raise_list ∷ raised ∷ []

-- The row makes of the words of the top frame those of the frame in s', which has the same method and callers.
pub record GoesOn (P : Program) (pl : Places) (n size : ℕ) (m : machine.MachineState) (s s' : State) (st : StandsFor P pl n size m s)
    (f : Effect) : Type 0 where
  pub top : Frame
  pub words : FrameWords
  pub raised : ℕ
  pub mode : s'.mode ≡ Running
  pub frames : s'.frames ≡ top ∷ st.callers
  pub method : top.method ≡ st.top.method
  pub saved : words.saved ≡ st.words.saved
  pub locals : AreLocals (object_place P pl s'.objects) top.locals words.locals
  pub operands : AreOperands (object_place P pl s'.objects) top.operands words.operands
  pub callers : AreWordsOfFrames P pl (object_place P pl s'.objects) st.callers st.below
  -- what the row makes
  pub stack : f.words ≡ words.operands ++ reverse words.saved
  pub deep : f.deep ≡ stacked st.below ++ words.locals
  pub low : f.low ≡ registers_of P pl n size s' top raised
  pub memory : f.memory ≡ memory_of P pl size s'
  pub as_many : length f.memory ≡ length m.port.words
  pub jpc : f.jpc ≡ top.pc

abbrev pub MachinesStandAgain : Type 0
MachinesStandAgain = (P : Program) (pl : Places) (n size : ℕ) (m new : machine.MachineState) (s s' : State) (st : StandsFor P pl n size m s) (p : CostParams)
    (answers : List (Option ℕ)) (f : Effect) (cycles : ℕ)
    → Says P pl → IsWellFormed P (limits_of P pl n size) s' → s.mode ≡ Running → GoesOn P pl n size m s s' st f
    → DidRow n p m.opcode f (seen p answers m st.words st.below) (env_of m) cycles new → StandsFor P pl n size new s'

-- A row that some words make is a run in at most its opcode's cost.
abbrev pub MadeRowsRun : Type 0
MadeRowsRun = (n : ℕ) (p : CostParams) (op : ℕ) (f : Effect) (x : Sketch) (e : Env) (m : machine.MachineState) → StandsAt n p op x e m → Makes f x
    → RunsRow n p op f x e

-- So the machine comes to the next state, where the row takes just the answers that the step takes, and puts out what the step puts out.
abbrev pub RowsCome : Type 0
RowsCome = (P : Program) (pl : Places) (n size : ℕ) (m : machine.MachineState) (answer : Option ℕ) (s s' : State) (h : IsStep P pl n size m answer s s')
    (i : Instr)
    (taken : List (Option ℕ)) (f : Effect)
    → s.mode ≡ Running → instr_at P h.stands.top.method h.stands.top.pc ≡ Some i → s'.answers ≡ s.answers ++ taken → f.answers ≡ None ∷ []
    → s'.output ≡ s.output ++ reverse f.output
    → GoesOn P pl n size m s s' h.stands f
    → RunsRow n (params m i.count 0) m.opcode f (seen (params m i.count 0) (taken ++ None ∷ []) m h.stands.words h.stands.below) (env_of m)
    → ComesTo P pl n size m s s'
