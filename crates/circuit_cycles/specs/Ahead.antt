-- What is read a clock ahead.
use Rattle.std.specs.Prelude.{◌≡◌, ◌<◌, ◌%◌, ◌^◌, true, false, slice_index}
use Rattle.method_cache.specs.Contents.{IsCache}
use Rattle.jop_core.specs.State.{MachineState}
use Rattle.jop_core.specs.Cycle.{code_byte}
use Rattle.circuit_cycles.specs.Shape.{Shape}
use Rattle.circuit_cycles.specs.Words.{place_of, takes_at_a}
use Rattle.circuit_cycles.specs.Core.{Core, Given, next, below, loaded, byte, byte_place, next_a_taken, fills_word}
use Rattle.circuit_cycles.specs.Methods.{IsRing}
use Rattle.circuit_cycles.specs.Stands.{HasPlaces, HasCache}

-- A at the next clock is known ahead where the next word takes its byte there.
abbrev pub TakesAhead : (c d : Core) → Type 0
TakesAhead c d = takes_at_a d.word ≡ true → next_a_taken c % 2 ^ 16 ≡ d.a % 2 ^ 16

-- The words that were read a clock ahead are the on-chip words below B and at the place that the word loads, whatever was written meanwhile.
abbrev pub StackWordsAreAhead : Type 0
StackWordsAreAhead =
    (shape : Shape) (given : Given) (c : Core) → HasPlaces shape.on_chip_words c
    → let d = next shape given c in
    (below d ≡ slice_index d.on_chip d.sp) × (loaded d ≡ slice_index d.on_chip (place_of shape.on_chip_words d.word d.vp d.ar d.operand))

-- The byte that the next word takes is read ahead where no load is under way then, and no word of one is written at this clock.
abbrev pub BytesAreAhead : Type 0
BytesAreAhead =
    (shape : Shape) (given : Given) (c : Core) (s : MachineState) → fills_word shape c ≡ false
    → let d = next shape given c in
    IsRing shape d.ring d.tags s.cache → IsCache s.cache → HasCache shape d s → d.header < 4 → TakesAhead c d
    → byte d ≡ code_byte s (byte_place d.word d.a d.jpc)
