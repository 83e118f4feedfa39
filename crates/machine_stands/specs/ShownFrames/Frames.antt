-- The frames of a state, as they are found among the words of the machine's stack.
use Rattle.std.specs.Prelude.{◌≡◌, ℕ, ◌+◌, ◌<◌, ◌≤◌, List, ◌∷◌, ◌++◌, length}
use Rattle.image_facts.specs.declared.method.CodedMethod.{CodedMethod}
use Rattle.jop_core.specs.declared.places.TheConstants.{STACK}
use Rattle.jop_core.specs.State as machine
use Rattle.bytecode_model.specs.State.{Frame, State}
use Rattle.bytecode_model.specs.Program.{Program}
use Rattle.bytecode_model.specs.WellFormed as formed
use Rattle.image_facts.specs.Places.{Places, object_place}
use Rattle.machine_stands.specs.Frames.{FrameWords, AreWordsOfFrames, stacked, vp_over}
use Rattle.machine_stands.specs.StandsFor.{stack_words}
use Rattle.machine_stands.specs.declared.shown_frames.frames.FramePlace.{FramePlace}
use Rattle.machine_stands.specs.ShownFrames.Shows.{ShowsState}

-- the machine has n on-chip words, and SP is the place of one of its stack
pub record HasStack (n : ℕ) (m : machine.MachineState) : Type 0 where
  pub count : length m.stack ≡ n
  pub low : STACK ≤ m.sp
  pub high : m.sp < n

-- At the place stands the frame of this number, counted from the top one, which is 1: its local variables begin there, and the record of its method lies there.
pub record IsFrameAt (P : Program) (pl : Places) (m : machine.MachineState) (s : State) (at : FramePlace) (number : ℕ) : Type 0 where
  pub frame : Frame
  pub callers : List Frame
  pub words : FrameWords
  pub below : List FrameWords
  pub above : List ℕ
  pub are_frames : AreWordsOfFrames P pl (object_place P pl s.objects) (frame ∷ callers) (words ∷ below)
  pub formed : formed.AreFrames P (length s.objects) (frame ∷ callers)
  pub stack : stack_words m ≡ stacked (words ∷ below) ++ above
  pub locals_at : at.locals ≡ vp_over below
  pub method_at : at.method ≡ pl.method frame.method
  pub nth : number + length callers ≡ length s.frames

-- so it is in each state for which the machine stands
abbrev pub EachFrameAt : List CodedMethod → machine.MachineState → FramePlace → (number : ℕ) → Type 0
EachFrameAt methods m at number = (P : Program) (pl : Places) (n size : ℕ) (s : State) → ShowsState methods m P pl n size s → IsFrameAt P pl m s at number
