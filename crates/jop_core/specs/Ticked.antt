-- What one call of `cycle` does.
use Rattle.std.specs.Prelude.{◌≡◌, ◌≢◌, ℕ, Bool, true, List, [], ◌∷◌, Ok, Err}
use Rattle.std.specs.declared.option.Option.{Option}
use Rattle.std.specs.declared.result.Result.{Result}
use Rattle.base.specs.Telling.{Rose}
use Rattle.jop_core.specs.declared.halt.Halt.TheVariants.{Running}
use Rattle.jop_core.specs.declared.tick.Tick.{Tick}
use Rattle.jop_core.specs.declared.tick.Tick.TheVariants.{Went, Halted}
use Rattle.jop_core.specs.State.{MachineState, seen_of}
use Rattle.jop_core.specs.Cycle.{cycle_of, asks_input, output_of}
use Rattle.device_traits.specs.declared.fault.DeviceFault.{DeviceFault}
use Rattle.device_traits.specs.declared.fault.DeviceFault.TheVariants.{Input, Output, Seen}
use Rattle.device_traits.specs.Told.{Told, DeviceNote, Wrote, Saw, Passed, PassedInPart, Exchanged, CountsRise, OnlyReads, OnlyWrites}

abbrev pub writes_of : List ℕ → List DeviceNote
writes_of [] = []
writes_of (byte ∷ bytes) = Wrote byte ∷ writes_of bytes

-- what a device notes of a cycle: the state before it, then the byte that it puts out
abbrev pub notes_of : MachineState → List DeviceNote
notes_of s = Saw (seen_of s) ∷ writes_of (output_of s)

-- what a device notes of the first of these bytes
abbrev pub first_write : List ℕ → DeviceNote
first_write [] = Wrote 0
first_write (byte ∷ bytes) = Wrote byte

-- a device was given a byte, or there was none
abbrev pub PutOut : {T : Type 0} → Told → Told → List ℕ → Result T DeviceFault → Type 0
PutOut told told' out (Ok x) = Passed told told' out [] (writes_of out) × OnlyWrites told told'
PutOut told told' out (Err Output) =
    PassedInPart told told' [] [] (first_write out) × OnlyWrites told told' × (out ≢ []) × Rose told.write_faults told'.write_faults
PutOut told told' out (Err fault) = ⊥

-- a device was asked for a byte where the microinstruction asks for one
abbrev pub AskedIn : Told → Told → (asked : Bool) → Result (Option ℕ) DeviceFault → Type 0
AskedIn told told' asked (Ok byte) = Exchanged told told' asked byte [] [] [] × OnlyReads told told'
AskedIn told told' asked (Err Input) = Passed told told' [] [] [] × OnlyReads told told' × (asked ≡ true) × Rose told.read_faults told'.read_faults
AskedIn told told' asked (Err fault) = ⊥

-- Where the machine had not halted, the device is handed the state and then given the byte. After a fault only the device has changed.
abbrev pub Ticked : MachineState → MachineState → Told → Told → Result Tick DeviceFault → Type 0
Ticked old new told told' (Ok Went) =
    (old.halt ≡ Running)
    × (input : Option ℕ) × (new ≡ cycle_of input old)
    × Exchanged told told' (asks_input old) input (output_of old) (seen_of old ∷ []) (notes_of old) × CountsRise told told'
Ticked old new told told' (Ok Halted) = (old.halt ≢ Running) × (new ≡ old) × (told' ≡ told)
Ticked old new told told' (Err Input) =
    (old.halt ≡ Running) × (new ≡ old) × Passed told told' [] (seen_of old ∷ []) (Saw (seen_of old) ∷ []) × CountsRise told told' × (asks_input old ≡ true)
    × Rose told.read_faults told'.read_faults
Ticked old new told told' (Err Output) =
    (old.halt ≡ Running) × (new ≡ old) × PassedInPart told told' (seen_of old ∷ []) (Saw (seen_of old) ∷ []) (first_write (output_of old))
    × CountsRise told told' × (output_of old ≢ []) × Rose told.write_faults told'.write_faults
Ticked old new told told' (Err Seen) =
    (old.halt ≡ Running) × (new ≡ old) × PassedInPart told told' [] [] (Saw (seen_of old)) × CountsRise told told' × Rose told.seen_faults told'.seen_faults
