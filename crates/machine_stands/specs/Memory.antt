-- What is read and written in the memory of a machine that stands for a state.
use Rattle.std.specs.Prelude.{◌≡◌, ℕ, ◌+◌, ◌*◌, ℤ, pos, List, [], ◌∷◌, slice_set, Some}
use Rattle.std.specs.declared.option.Option.{Option}
use Rattle.opcodes.specs.declared.instruction.Instr.{Instr}
use Rattle.jop_core.specs.State as machine
use Rattle.bytecode_model.specs.declared.Value.{Value}
use Rattle.bytecode_model.specs.declared.Value.TheVariants.{Long, Ref}
use Rattle.bytecode_model.specs.declared.Ending.TheVariants.{Running}
use Rattle.bytecode_model.specs.Rows.{PutField}
use Rattle.bytecode_model.specs.State.{Object, Frame, State}
use Rattle.bytecode_model.specs.Program.{Program, AField, instr_at}
use Rattle.bytecode_model.specs.Steps.{row_at, with_top}
use Rattle.image_facts.specs.Within.{LieAt}
use Rattle.image_facts.specs.Words.{high_word, low_word}
use Rattle.image_facts.specs.Places.{Places, object_place, pool_of}
use Rattle.machine_stands.specs.StandsFor.{memory_of}
use Rattle.machine_stands.specs.Simulates.{IsStep}

-- What a `putfield` of a long writes: its pool entry has the word of the field in the object, and 1; two words of the object then make the memory
-- that of the next state.
pub record PutsLong (P : Program) (pl : Places) (size : ℕ) (m : machine.MachineState) (s s' : State) (f : Frame) (callers : List Frame) (next index p : ℕ)
    (n : ℤ)
    (rest : List Value) : Type 0 where
  pub first : ℕ
  pub entry : LieAt m.port.words (pool_of P pl f.method + 2 * index) (first ∷ 1 ∷ [])
  pub objects : List Object
  pub next_state : s' ≡ with_top (record s { objects = objects }) callers (record f { pc = next; operands = rest })
  pub memory : let place = object_place P pl s.objects p + first in
      slice_set (slice_set m.port.words (place + 1) (low_word n)) place (high_word n) ≡ memory_of P pl size s'

abbrev pub LongFieldsAreWritten : Type 0
LongFieldsAreWritten = (P : Program) (pl : Places) (words size : ℕ) (m : machine.MachineState) (answer : Option ℕ) (s s' : State) (f : Frame)
    (callers : List Frame)
    (i : Instr)
    (next index named owner k p : ℕ) (n : ℤ) (rest : List Value) → IsStep P pl words size m answer s s' → s.mode ≡ Running → s.frames ≡ f ∷ callers
    → instr_at P f.method f.pc ≡ Some i
    → i.first ≡ pos index → P.operand f.method f.pc ≡ AField named owner k → row_at P f ≡ Some (next, PutField named owner k)
    → f.operands ≡ Long n ∷ Ref p ∷ rest
    → PutsLong P pl size m s s' f callers next index p n rest
