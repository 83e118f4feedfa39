-- What is proved of the code of bare images.
use Rattle.std.specs.Prelude.{◌≡◌, ◌⊎◌, ℕ, true, Some}
use Rattle.std.specs.declared.option.Option.{Option}
use Rattle.opcodes.specs.Bytes.{u1}
use Rattle.opcodes.specs.Start.{IsStart}
use Rattle.image_file.specs.Bare.{BareContent, IsBareContent}
use Rattle.jop_core.specs.State as machine
use Rattle.bytecode_model.specs.declared.Ending.TheVariants.{Running, Ended}
use Rattle.bytecode_model.specs.State.{State}
use Rattle.bytecode_model.specs.Program.{Program}
use Rattle.bytecode_model.specs.Steps.{step}
use Rattle.bytecode_model.specs.WellFormed.{IsInput}
use Rattle.machine_stands.specs.Simulates.{is_bare}
pub use Rattle.boundary.specs.Opcodes.{opcode_of}
use Rattle.boundary.specs.Setting.{limits, Stands, bare_setting}

-- each of its instructions has one of the opcodes that a bare image may have
abbrev pub BareOpcodes : Type 0
BareOpcodes = (image : BareContent) → IsBareContent image → (pc : ℕ) → IsStart image.code pc → is_bare (u1 image.code pc) ≡ true

-- A step takes nothing from the input, goes on or ends, and puts something out at impdep2 alone.
pub record IsBareStep (P : Program) (s t : State) : Type 0 where
  pub answers : t.answers ≡ s.answers
  pub mode : (t.mode ≡ Running) ⊎ (t.mode ≡ Ended)
  pub output : (t.output ≡ s.output) ⊎ (opcode_of P s ≡ Some 255)

-- so do all steps of bare images
abbrev pub BareImagesStep : Type 0
BareImagesStep = (image : BareContent) (chip memory : ℕ) (m : machine.MachineState) (answer : Option ℕ) (s t : State)
    → let g = bare_setting image chip memory in
    IsBareContent image → Stands g m s → s.mode ≡ Running → IsInput answer → step g.program (limits g) answer s ≡ Some t → IsBareStep g.program s t
