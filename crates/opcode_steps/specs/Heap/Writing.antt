-- What is written of the values of objects and of static fields in the memory of a machine that stands for a state.
use Rattle.std.specs.Prelude.{◌≡◌, ℕ, ◌+◌, true, false, ℤ, List, slice_get, slice_set, Some}
use Rattle.jop_core.specs.State as machine
use Rattle.bytecode_model.specs.declared.Value.{Value}
use Rattle.bytecode_model.specs.declared.Value.TheVariants.{Long, Unset}
use Rattle.bytecode_model.specs.Lists.{replaced}
use Rattle.bytecode_model.specs.Types.{is_long}
use Rattle.bytecode_model.specs.State.{Object, State}
use Rattle.bytecode_model.specs.Program.{Program}
use Rattle.bytecode_model.specs.Steps.{written}
use Rattle.bytecode_model.specs.WellFormed.{IsWellFormed}
use Rattle.image_facts.specs.Words.{high_word, low_word}
use Rattle.image_facts.specs.Places.{Places, static_place, object_place, end_of}
use Rattle.image_facts.specs.Laws.{part_place}
use Rattle.machine_stands.specs.Frames.{IsWordOf}
use Rattle.machine_stands.specs.StandsFor.{StandsFor, memory_of, limits_of}

-- the words of a long, written in either order, make these words
pub record WritesLong (words : List ℕ) (place : ℕ) (n : ℤ) (after : List ℕ) : Type 0 where
  pub low_first : slice_set (slice_set words (place + 1) (low_word n)) place (high_word n) ≡ after
  pub high_first : slice_set (slice_set words place (high_word n)) (place + 1) (low_word n) ≡ after

-- A word that is written over a field or an element of one word makes the memory of the state in which it has the new value.
abbrev pub PartsAreWritten : Type 0
PartsAreWritten = (P : Program) (pl : Places) (n size : ℕ) (m : machine.MachineState) (s : State) (p : ℕ) (o : Object) (k : ℕ) (v w : Value) (word : ℕ)
    (changed : List Object)
    → StandsFor P pl n size m s → IsWellFormed P (limits_of P pl n size) s → slice_get s.objects p ≡ Some o → slice_get o.parts k ≡ Some v → is_long v ≡ false
    → is_long w ≡ false → (w ≡ Unset → ⊥)
    → IsWordOf (object_place P pl s.objects) w word → written s.objects p k w ≡ Some changed
    → slice_set m.port.words (part_place P pl s.objects p o k) word ≡ memory_of P pl size (record s { objects = changed })

abbrev pub LongPartsAreWritten : Type 0
LongPartsAreWritten = (P : Program) (pl : Places) (n size : ℕ) (m : machine.MachineState) (s : State) (p : ℕ) (o : Object) (k : ℕ) (v : Value) (w : ℤ)
    (changed : List Object)
    → StandsFor P pl n size m s → IsWellFormed P (limits_of P pl n size) s → slice_get s.objects p ≡ Some o → slice_get o.parts k ≡ Some v → is_long v ≡ true
    → written s.objects p k (Long w) ≡ Some changed
    → WritesLong m.port.words (part_place P pl s.objects p o k) w (memory_of P pl size (record s { objects = changed }))

-- So with static fields.
abbrev pub StaticsAreWritten : Type 0
StaticsAreWritten = (P : Program) (pl : Places) (n size : ℕ) (m : machine.MachineState) (s : State) (k : ℕ) (v w : Value) (word : ℕ) (changed : List Value)
    → StandsFor P pl n size m s → IsWellFormed P (limits_of P pl n size) s → slice_get s.statics k ≡ Some v → is_long v ≡ false → is_long w ≡ false
    → (w ≡ Unset → ⊥)
    → IsWordOf (object_place P pl s.objects) w word → replaced s.statics k w ≡ Some changed
    → slice_set m.port.words (static_place P pl k) word ≡ memory_of P pl size (record s { statics = changed })

abbrev pub LongStaticsAreWritten : Type 0
LongStaticsAreWritten = (P : Program) (pl : Places) (n size : ℕ) (m : machine.MachineState) (s : State) (k : ℕ) (v : Value) (w : ℤ) (changed : List Value)
    → StandsFor P pl n size m s → IsWellFormed P (limits_of P pl n size) s → slice_get s.statics k ≡ Some v → is_long v ≡ true
    → replaced s.statics k (Long w) ≡ Some changed
    → WritesLong m.port.words (static_place P pl k) w (memory_of P pl size (record s { statics = changed }))

-- the objects lie where the others do, and end where those do
pub record SamePlaces (P : Program) (pl : Places) (objects changed : List Object) : Type 0 where
  pub places : object_place P pl changed ≡ object_place P pl objects
  pub end : end_of P pl changed ≡ end_of P pl objects

-- Where a value is replaced by one of its width, all objects stay where they lie.
abbrev pub PlacesStay : Type 0
PlacesStay = (P : Program) (pl : Places) (objects changed : List Object) (p : ℕ) (o : Object) (k : ℕ) (v w : Value) → slice_get objects p ≡ Some o
    → slice_get o.parts k ≡ Some v → is_long w ≡ is_long v
    → written objects p k w ≡ Some changed → SamePlaces P pl objects changed
