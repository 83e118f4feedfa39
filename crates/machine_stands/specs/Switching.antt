-- When a machine stands again, after a row that goes on in another frame.
use Rattle.std.specs.Prelude.{◌≡◌, ℕ, ◌+◌, ◌%◌, ◌^◌, Bool, true, false, ◌==◌, List, [], ◌∷◌, ◌++◌, length, reverse, Some, None}
use Rattle.std.specs.declared.option.Option.{Option}
use Rattle.base.specs.Packed.{words_of_bytes}
use Rattle.method_cache.specs.Contents.{is_cached, loaded}
use Rattle.opcodes.specs.declared.instruction.Instr.{Instr}
use Rattle.jop_core.specs.State as machine
use Rattle.micro_sketch.specs.View.{env_of}
use Rattle.micro_sketch.specs.Rows.{Switch, RunsSwitch}
use Rattle.bytecode_model.specs.declared.Ending.TheVariants.{Running}
use Rattle.bytecode_model.specs.State.{Frame, State}
use Rattle.bytecode_model.specs.Program.{Program, Body, body_of, instr_at}
use Rattle.image_facts.specs.Places.{Places, object_place}
use Rattle.machine_stands.specs.Frames.{FrameWords, AreWordsOfFrames, stacked, vp_over}
use Rattle.machine_stands.specs.Comes.{params, ComesTo}
use Rattle.machine_stands.specs.Simulates.{IsStep}
use Rattle.machine_stands.specs.Seen.{seen}
use Rattle.machine_stands.specs.Again.{registers_of}
use Rattle.machine_stands.specs.Stopping.{SameRest}

-- the cache, the counts and the loads of a look-up of the method at a place, with these words
abbrev pub FindsBy : (is_hit : Bool) → (place : ℕ) → (words : List ℕ) → machine.MachineState → Switch → Type 0
FindsBy true place words m f = (f.cache ≡ m.cache) × (f.hits ≡ (m.hits + 1) % 2 ^ 64) × (f.misses ≡ m.misses) × (f.loads ≡ 0) × (f.loaded ≡ 0)
FindsBy false place words m f =
    (f.cache ≡ loaded place words m.cache) × (f.hits ≡ m.hits) × (f.misses ≡ (m.misses + 1) % 2 ^ 64) × (f.loads ≡ 1) × (f.loaded ≡ length words)

-- The row makes of the words of the frames those of the frames in s', of which there are more or fewer, and looks up the method of the top one.
pub record SwitchesOn (P : Program) (pl : Places) (n size : ℕ) (m : machine.MachineState) (s s' : State) (f : Switch) : Type 0 where
  pub top : Frame
  pub callers : List Frame
  pub body : Body
  pub words : FrameWords
  pub below : List FrameWords
  pub raised : ℕ
  pub mode : s'.mode ≡ Running
  pub frames : s'.frames ≡ top ∷ callers
  pub other : (length s.frames == length s'.frames) ≡ false
  pub is_body : body_of P top.method ≡ Some body
  pub rest : SameRest s s'
  pub are_frames : AreWordsOfFrames P pl (object_place P pl s'.objects) (top ∷ callers) (words ∷ below)
  -- what the row makes
  pub stack : f.words ≡ words.operands ++ reverse words.saved
  pub deep : f.deep ≡ stacked below ++ words.locals
  pub vp : f.vp ≡ vp_over below
  pub low : f.low ≡ registers_of P pl n size s' top raised
  pub memory : f.memory ≡ m.port.words
  pub jpc : f.jpc ≡ top.pc
  pub method : f.method ≡ pl.method top.method
  pub found : FindsBy (is_cached (pl.method top.method) m.cache) (pl.method top.method) (words_of_bytes body.code) m f
  pub answers : f.answers ≡ None ∷ []
  pub output : f.output ≡ []

abbrev pub SwitchesCome : Type 0
SwitchesCome = (P : Program) (pl : Places) (n size : ℕ) (m : machine.MachineState) (answer : Option ℕ) (s s' : State) (h : IsStep P pl n size m answer s s')
    (i : Instr) (f : Switch)
    → s.mode ≡ Running → instr_at P h.stands.top.method h.stands.top.pc ≡ Some i → SwitchesOn P pl n size m s s' f
    → RunsSwitch n (params m i.count 0) m.opcode f (seen (params m i.count 0) (None ∷ []) m h.stands.words h.stands.below) (env_of m)
    → ComesTo P pl n size m s s'
