-- What is read of the words of the image that nothing writes, in the memory of a machine that stands for a state.
use Rattle.std.specs.Prelude.{◌≡◌, ℕ, ◌+◌, ◌*◌, ◌<◌, pos, true, List, length, slice_index}
use Rattle.std.specs.declared.option.Option.{Option}
use Rattle.opcodes.specs.declared.instruction.Instr.{Instr}
use Rattle.jop_core.specs.State as machine
use Rattle.bytecode_model.specs.declared.Ending.TheVariants.{Running}
use Rattle.bytecode_model.specs.State.{State}
use Rattle.bytecode_model.specs.Program.{Program, NoOperand}
use Rattle.bytecode_model.specs.Rows.{Row}
use Rattle.bytecode_model.specs.Effects.{Fault, fault_object}
use Rattle.bytecode_model.specs.WellFormed.{IsWellFormed}
use Rattle.image_facts.specs.Places.{Places, AreFixed, object_place, pool_of}
use Rattle.image_facts.specs.Says.{Means}
use Rattle.machine_stands.specs.StandsFor.{StandsFor, limits_of}
use Rattle.machine_stands.specs.Simulates.{IsStep}
use Rattle.machine_stands.specs.Reading.{IsAtRow}

-- Fixed words are read in the memory at their place.
abbrev pub FixedWordsAreRead : Type 0
FixedWordsAreRead = (P : Program) (pl : Places) (n size : ℕ) (m : machine.MachineState) (s : State) (place : ℕ) (words : List ℕ) (k : ℕ)
    → StandsFor P pl n size m s
    → IsWellFormed P (limits_of P pl n size) s
    → AreFixed P pl place words → k < length words → (place + k < size) × (slice_index m.port.words (place + k) ≡ slice_index words k)

-- Of what instructions raise, the list of those objects has the places.
abbrev pub RaiseListIsRead : Type 0
RaiseListIsRead = (P : Program) (pl : Places) (n size : ℕ) (m : machine.MachineState) (answer : Option ℕ) (s s' : State) (h : IsStep P pl n size m answer s s')
    (f : Fault) → P.linked ≡ true
    → (pl.raise_list + fault_object f < size) × (slice_index m.port.words (pl.raise_list + fault_object f) ≡ object_place P pl s.objects (fault_object f))

-- the two words of the pool entry that an instruction names
pub record IsPoolEntry (P : Program) (pl : Places) (size : ℕ) (m : machine.MachineState) (op method pc index : ℕ) : Type 0 where
  pub first : ℕ
  pub second : ℕ
  pub within : pool_of P pl method + 2 * index + 1 < size
  pub first_is : slice_index m.port.words (pool_of P pl method + 2 * index) ≡ first
  pub second_is : slice_index m.port.words (pool_of P pl method + 2 * index + 1) ≡ second
  pub means : Means P pl op (P.operand method pc) first second

abbrev pub PoolsAreRead : Type 0
PoolsAreRead = (P : Program) (pl : Places) (n size : ℕ) (m : machine.MachineState) (answer : Option ℕ) (s s' : State) (h : IsStep P pl n size m answer s s')
    (i : Instr) (r : Row) (index : ℕ) → s.mode ≡ Running
    → IsAtRow P pl n size m answer s s' h.stands i r → i.first ≡ pos index → (P.operand h.stands.top.method h.stands.top.pc ≡ NoOperand → ⊥)
    → IsPoolEntry P pl size m i.op h.stands.top.method h.stands.top.pc index
