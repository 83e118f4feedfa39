-- The states of bare images.
use Rattle.std.specs.Prelude.{◌≡◌, ◌⊎◌, ℕ, zero, suc, List, [], ◌∷◌, Some, FitsSigned}
use Rattle.std.specs.Int.{w32}
use Rattle.std.specs.declared.option.Option.{Option}
use Rattle.image_file.specs.Bare.{BareContent, IsBareContent}
use Rattle.jop_core.specs.State as machine
use Rattle.bytecode_model.specs.declared.Value.{Value}
use Rattle.bytecode_model.specs.declared.Value.TheVariants.{Int}
use Rattle.bytecode_model.specs.declared.Ending.TheVariants.{Running, Ended, Uncaught}
use Rattle.bytecode_model.specs.State.{Frame, State}
use Rattle.bytecode_model.specs.Steps.{step}
use Rattle.bytecode_model.specs.WellFormed.{IsInput}
use Rattle.bytecode_typing.specs.Bare.{bare_typing, int_frame}
use Rattle.bytecode_typing.specs.Fits.{Fits}
use Rattle.machine_stands.specs.Bare.{body_of}
use Rattle.boundary.specs.Setting.{limits, Stands, bare_setting}

-- so many ints
abbrev pub AreInts : ℕ → List Value → Type 0
AreInts zero [] = Unit {0}
AreInts (suc n) (Int i ∷ vs) = FitsSigned w32 i × AreInts n vs
AreInts n vs = ⊥

-- One frame, that of boot, and no object and no static field. The program is running or has ended, at an instruction. An int is in each local variable, and
-- on the operand stack are as many as the code before the instruction leaves there.
pub record IsBareState (image : BareContent) (s : State) : Type 0 where
  pub frame : Frame
  pub only : s.frames ≡ frame ∷ []
  pub boot : frame.method ≡ 0
  pub objects : s.objects ≡ []
  pub statics : s.statics ≡ []
  pub mode : (s.mode ≡ Running) ⊎ (s.mode ≡ Ended)
  pub locals : AreInts image.max_locals frame.locals
  pub depth : ℕ
  pub place : bare_typing (body_of image) 0 frame.pc ≡ Some (int_frame (body_of image) depth)
  pub operands : AreInts depth frame.operands

-- Each state that fits a bare image and isn't uncaught is of this kind, and from such a state for which a machine stands a step comes to such a state.
pub record HaveBareStates : Type 0 where
  pub fit : (image : BareContent) (chip memory : ℕ) (s : State) → let g = bare_setting image chip memory in
      IsBareContent image → Fits g.program g.types (limits g) s → ((c : ℕ) → s.mode ≡ Uncaught c → ⊥) → IsBareState image s
  pub next : (image : BareContent) (chip memory : ℕ) (m : machine.MachineState) (answer : Option ℕ) (s t : State) → let g = bare_setting image chip memory in
      IsBareContent image → Stands g m s → s.mode ≡ Running → IsInput answer → step g.program (limits g) answer s ≡ Some t → IsBareState image t
