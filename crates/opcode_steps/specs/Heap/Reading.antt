-- What is read of objects, of their values and of static fields in the memory of a machine that stands for a state (JVM Specification SE 8, 2.5.3 and 2.7).
use Rattle.std.specs.Prelude.{◌≡◌, ℕ, ◌+◌, ◌<◌, true, false, ℤ, length, slice_get, slice_index, Some}
use Rattle.jop_core.specs.State as machine
use Rattle.bytecode_model.specs.declared.Value.{Value}
use Rattle.bytecode_model.specs.declared.Value.TheVariants.{Long}
use Rattle.bytecode_model.specs.Types.{is_long}
use Rattle.bytecode_model.specs.State.{Object, State}
use Rattle.bytecode_model.specs.Program.{Program, kind_of}
use Rattle.bytecode_model.specs.Effects.{is_array}
use Rattle.bytecode_model.specs.WellFormed.{IsWellFormed}
use Rattle.image_facts.specs.Words.{high_word, low_word}
use Rattle.image_facts.specs.Places.{Places, static_place, object_place}
use Rattle.image_facts.specs.Says.{Says}
use Rattle.image_facts.specs.Laws.{part_place}
use Rattle.machine_stands.specs.Frames.{IsWordOf}
use Rattle.machine_stands.specs.StandsFor.{StandsFor, limits_of}

-- the word at a place of the memory
pub record Reads (size : ℕ) (m : machine.MachineState) (place word : ℕ) : Type 0 where
  pub within : place < size
  pub word_is : slice_index m.port.words place ≡ word

-- that of a value which takes one word, where each object lies at a place
pub record ReadsWord (size : ℕ) (m : machine.MachineState) (place_of : ℕ → ℕ) (place : ℕ) (v : Value) : Type 0 where
  pub within : place < size
  pub word_is : IsWordOf place_of v (slice_index m.port.words place)

-- those of a long, the high one first
pub record ReadsLong (size : ℕ) (m : machine.MachineState) (place : ℕ) (n : ℤ) : Type 0 where
  pub high : Reads size m place (high_word n)
  pub low : Reads size m (place + 1) (low_word n)

-- An object begins with the place of its type, and an array goes on with its length.
pub record ReadsObject (P : Program) (pl : Places) (size : ℕ) (m : machine.MachineState) (s : State) (p : ℕ) (o : Object) : Type 0 where
  pub type : Reads size m (object_place P pl s.objects p) (pl.type o.kind)
  pub array : is_array (kind_of P o) ≡ true → Reads size m (object_place P pl s.objects p + 1) (length o.parts)

abbrev pub ObjectsAreRead : Type 0
ObjectsAreRead = (P : Program) (pl : Places) (n size : ℕ) (m : machine.MachineState) (s : State) (p : ℕ) (o : Object) → StandsFor P pl n size m s
    → IsWellFormed P (limits_of P pl n size) s
    → slice_get s.objects p ≡ Some o → ReadsObject P pl size m s p o

-- No object lies at place 0, which stands for null.
abbrev pub ObjectsAreNotNull : Type 0
ObjectsAreNotNull = (P : Program) (pl : Places) (s : State) (p : ℕ) → Says P pl → P.linked ≡ true → 0 < object_place P pl s.objects p

-- A field or an element lies at its place.
abbrev pub PartsAreRead : Type 0
PartsAreRead = (P : Program) (pl : Places) (n size : ℕ) (m : machine.MachineState) (s : State) (p : ℕ) (o : Object) (k : ℕ) (v : Value)
    → StandsFor P pl n size m s
    → IsWellFormed P (limits_of P pl n size) s
    → slice_get s.objects p ≡ Some o → slice_get o.parts k ≡ Some v → is_long v ≡ false
    → ReadsWord size m (object_place P pl s.objects) (part_place P pl s.objects p o k) v

abbrev pub LongPartsAreRead : Type 0
LongPartsAreRead = (P : Program) (pl : Places) (n size : ℕ) (m : machine.MachineState) (s : State) (p : ℕ) (o : Object) (k : ℕ) (v : ℤ)
    → StandsFor P pl n size m s
    → IsWellFormed P (limits_of P pl n size) s
    → slice_get s.objects p ≡ Some o → slice_get o.parts k ≡ Some (Long v) → ReadsLong size m (part_place P pl s.objects p o k) v

-- So does a static field.
abbrev pub StaticsAreRead : Type 0
StaticsAreRead = (P : Program) (pl : Places) (n size : ℕ) (m : machine.MachineState) (s : State) (k : ℕ) (v : Value) → StandsFor P pl n size m s
    → IsWellFormed P (limits_of P pl n size) s
    → slice_get s.statics k ≡ Some v → is_long v ≡ false → ReadsWord size m (object_place P pl s.objects) (static_place P pl k) v

abbrev pub LongStaticsAreRead : Type 0
LongStaticsAreRead = (P : Program) (pl : Places) (n size : ℕ) (m : machine.MachineState) (s : State) (k : ℕ) (v : ℤ) → StandsFor P pl n size m s
    → IsWellFormed P (limits_of P pl n size) s
    → slice_get s.statics k ≡ Some (Long v) → ReadsLong size m (static_place P pl k) v
