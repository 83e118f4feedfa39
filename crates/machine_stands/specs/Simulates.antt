-- What the microcode of an opcode has to do: go to where the machine stands for the next state.
use Rattle.std.specs.Prelude.{◌≡◌, ◌⊎◌, ℕ, ◌==◌, ◌||◌, Bool, true, IsTrue, is_some, Some}
use Rattle.std.specs.declared.option.Option.{Option}
use Rattle.image_file.specs.Shapes.{shape_of}
use Rattle.image_file.specs.Bare.{return_code}
use Rattle.jop_core.specs.State as machine
use Rattle.bytecode_model.specs.declared.Ending.TheVariants.{Running, Raising}
use Rattle.bytecode_model.specs.State.{State}
use Rattle.bytecode_model.specs.Program.{Program}
use Rattle.bytecode_model.specs.Steps.{step}
use Rattle.bytecode_model.specs.WellFormed.{IsInput, IsWellFormed}
use Rattle.image_facts.specs.Places.{Places}
use Rattle.image_facts.specs.Says.{Says}
use Rattle.machine_stands.specs.StandsFor.{StandsFor, limits_of}
use Rattle.machine_stands.specs.Comes.{ComesTo}

-- the opcodes that a bare image may have
abbrev pub is_bare : ℕ → Bool
is_bare op = is_some (shape_of op) || op == return_code

-- The machine stands for s, whose next state is s', and both are well formed.
pub record IsStep (P : Program) (pl : Places) (n size : ℕ) (m : machine.MachineState) (answer : Option ℕ) (s s' : State) : Type 0 where
  pub says : Says P pl
  pub stands : StandsFor P pl n size m s
  pub well_formed : IsWellFormed P (limits_of P pl n size) s
  pub byte : IsInput answer
  pub step : step P (limits_of P pl n size) answer s ≡ Some s'
  pub next_well_formed : IsWellFormed P (limits_of P pl n size) s'

-- From each opcode of the family the machine comes to the next state. In a bare image only its opcodes are met.
abbrev pub Simulates : (family : ℕ → Bool) → Type 0
Simulates family = (P : Program) (pl : Places) (n size : ℕ) (m : machine.MachineState) (answer : Option ℕ) (s s' : State) → IsStep P pl n size m answer s s'
    → s.mode ≡ Running → IsTrue (family m.opcode) → (P.linked ≡ true) ⊎ IsTrue (is_bare m.opcode) → ComesTo P pl n size m s s'

-- So from the raise routine.
abbrev pub Unwinds : Type 0
Unwinds = (P : Program) (pl : Places) (n size : ℕ) (m : machine.MachineState) (answer : Option ℕ) (s s' : State) (p : ℕ) → IsStep P pl n size m answer s s'
    → s.mode ≡ Raising p → P.linked ≡ true → ComesTo P pl n size m s s'
